mod Finding
mod Waiting
