mod GroupTelling
mod Keeping
mod LockTelling
mod Renewed
mod Rooms
mod Telling
