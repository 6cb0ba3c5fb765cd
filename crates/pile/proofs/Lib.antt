mod Queueing
mod Turning
