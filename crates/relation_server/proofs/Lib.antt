mod Completing
mod Loads
mod Registering
