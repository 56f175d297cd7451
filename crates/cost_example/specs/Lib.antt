pub mod Energies
pub mod EnergyLaws
