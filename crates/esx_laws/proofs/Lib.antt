mod PathLemmas
mod ShortHints
mod Agreement
