-- Whole runs that antt computes, and that meet the conditions of the theorem on whole runs.
pub mod Tests
pub mod TwoServers
pub mod Premises
pub mod SeenMessages
pub mod TypingSlip
pub mod StoppedServer
pub mod ThreeServers
pub mod PointsPool
pub mod SeedsPool
pub mod SeedsPremises
pub mod MixedReturns
pub mod MixedPremises
pub mod SecondProgram
