-- Definitions that mirror the code, for contracts of private functions: no public claim depends on them.
pub mod Conversions
pub mod FrameStates
pub mod RunLoop
pub mod Instrs
pub mod Machines
pub mod Operands
pub mod Proc
pub mod ProcView
pub mod RunsSteps
