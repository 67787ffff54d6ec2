mod Clauses
mod Firsts
mod Lists
mod Members
mod Orders
mod Steps
mod Sums
