mod Constants
mod Told
