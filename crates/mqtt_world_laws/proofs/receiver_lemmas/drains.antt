-- Rounds of a drain, of the hop and of the world.
pub mod DrainCauses
pub mod DrainRuns
pub mod Further
pub mod HopRounds
pub mod RoundFits
pub mod RoundFurther
pub mod RoundPhases
pub mod WishFits
pub mod WorldRoundConnects
pub mod WorldRoundLines
pub mod WorldRoundReads
pub mod WorldRoundSteps
pub mod WorldRoundWishes
pub mod WorldRounds
