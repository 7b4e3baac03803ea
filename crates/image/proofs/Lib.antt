mod Loops
mod Nodes
mod Opened
