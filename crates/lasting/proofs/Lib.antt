mod Rows
mod Follows
mod Accepting
mod Granting
mod Returning
