-- The marks beside an ending's set, for those above.
pub use Rattle.moving.proofs.Marking.{marks_of}
