-- Laws of what the calls share that name a return: the return and the refusal of the call, and sigma.
pub mod Holding
pub mod Naming
