pub mod SimulationLaws
