mod Along
mod Hosts
mod Listed
mod Counted
mod Surveying
