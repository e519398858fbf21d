mod Shifts
mod Tellings
mod Listed
mod Going
mod Looks
mod Watching
