-- Bytes that are laid leave the number of frames.
pub use Rattle.nova_turn.proofs.Laid.{laid_length}
