mod AllCallers
mod Walkers
