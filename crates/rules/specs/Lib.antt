-- Document 01 as definitions, in the order of the paper: settings, columns, circuit, run, values, a return, judging,
-- messages, one server, its waiting list and its table, joining, recount; the ledger of whole runs, joined messages in any
-- order and with one challenge, calls on several returns mixed, and what is promised of whole runs, of returns that making
-- wrote, of servers that go on after a stop and of what a table tells of where its pool stands; the examples.
-- (Making names the size of a share from Judging; Keyed has lists whose members have an id.) Of document 02: columns with a top
-- and of points stand among the others, and returns that wait, their entry and the least count in the rules of a server; behind the
-- values every legal return of a small sheet; behind judging the products that check no bit, and shares from seeds; behind recount
-- room told from the sheet, and messages stored by place; behind whole runs the line through points.
pub mod Settings
pub mod Columns
pub mod Circuit
pub mod CircuitReader
pub mod Run
pub mod Walk
pub mod Values
pub mod EveryReturn
pub mod Making
pub mod Judging
pub mod Products
pub mod Seeds
pub mod Messages
pub mod Keyed
pub mod Server
pub mod WaitingList
pub mod Table
pub mod Joining
pub mod Recount
pub mod Sizes
pub mod Shelf
pub mod Ledger
pub mod Runs
pub mod AnyOrder
pub mod SameChallenge
pub mod Mixing
pub mod Pools
pub mod WholeRun
pub mod Line
pub mod Made
pub mod Resumed
pub mod State
pub mod Examples
pub mod CallExamples
pub mod TopExamples
pub mod PointExamples
pub mod SeedExamples
pub mod SoundExamples
pub mod TableExamples
pub mod WaitingExamples
pub mod OrderExamples
pub mod ChallengeExamples
pub mod LeastExamples
pub mod EntryExamples
pub mod StateExamples
