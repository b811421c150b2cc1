pub mod Borne
pub mod BothPasses
pub mod StableBodies
pub mod StableSites
pub mod WorkedStable
