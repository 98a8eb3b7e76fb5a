mod Again
mod Wholes
