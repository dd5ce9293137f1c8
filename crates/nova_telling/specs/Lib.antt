pub use Rattle.nova_report.specs.Report
pub use Rattle.nova_recording.specs.Recordings
pub use Rattle.nova_recording.specs.Wants
pub mod Slices
pub mod Told
