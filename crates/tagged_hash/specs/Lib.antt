pub use Rattle.vo_spec.specs.Sha256
pub use Rattle.vo_spec.specs.Collides
pub mod Holding
