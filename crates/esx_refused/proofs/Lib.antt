mod Histories
mod FreeFrames
mod Admitted
mod Loops
mod Started
mod Sums
mod Refusals
