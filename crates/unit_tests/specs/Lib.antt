pub mod StandardOpcodes
pub mod SumModule
