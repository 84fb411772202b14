-- Theorems about the definitions of specs/, in folders by what they prove.
-- What antt computes: the examples, and the facts of document 01's setting
pub mod Computed
-- Demand 2: walking the columns is the circuit's run; limits; a sheet's circuit is read; tests say legal
pub mod Circuits
-- Every legal return of a small sheet: the lists are the legal ones, each once, rising and counted, and making takes each
pub mod LegalLists
-- Judging and making: linearity, few pairs, shares add up, honest returns
pub mod Returns
-- The line that best fits y on x: D is the spread of x, the three numbers solve equation 1, how large they are
pub mod Lines
-- Messages stored by place: every run is brought back
pub mod Storage
-- The waiting list: records by their places, and the returns that wait
pub mod Waiting
-- Demand 3: the bytes of messages; what a call does to a ledger, and what a history of calls comes to
pub mod Histories
-- Demand 3: the table's three parts tell what the ledger tells
pub mod Tables
-- Demand 3: verdicts, the same ids, totals; a sound return is handled; the whole claim
pub mod Runs
