mod Gathering
mod Collecting
