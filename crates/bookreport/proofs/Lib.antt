mod Cuts
mod Turns
