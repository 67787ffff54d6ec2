mod Held
mod Lists
mod Merging
mod Steps
