-- What is stored, in reading order: what holds after any calls, the contracts that is over, their equations, the bytes of automaton and run, and what they mean.
pub mod Demand3
pub mod RunContracts
pub mod Build
pub mod RunCalls
pub mod Asking
pub mod HeldSet
pub mod Shape
pub mod Run
pub mod Automaton
pub mod Compiled
pub mod Tables
pub mod Marked
pub mod Bits
pub mod Usable
pub mod Code
