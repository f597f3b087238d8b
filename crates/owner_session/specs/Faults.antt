-- How many calls of the outside have failed: each kind has a count.
use Rattle.std.specs.Prelude.{◌≡◌, ℕ, ◌≤◌, Result, IsErrOf}
use Rattle.outside.specs.FaultRose.{FaultRose}
use Rattle.owner_session.specs.declared.stop.SessionStop.{SessionStop}
use Rattle.owner_session.specs.declared.stop.SessionStop.TheVariants.{LinkFault, DiskFault, OutputFault}

pub record FaultCounts : Type 0 where
  pub link : ℕ
  pub disk : ℕ
  pub out : ℕ

-- No count falls; where a fault stopped the work its own count rose, and each other is as it was.
pub record CountsFaults {T : Type 0} (result : Result T SessionStop) (before after : FaultCounts)
    : Type 0 where
  pub link_counts : before.link ≤ after.link
  pub link_cause : IsErrOf result LinkFault → FaultRose before.link after.link
  pub link_quiet : (IsErrOf result LinkFault → ⊥) → after.link ≡ before.link
  pub disk_counts : before.disk ≤ after.disk
  pub disk_cause : IsErrOf result DiskFault → FaultRose before.disk after.disk
  pub disk_quiet : (IsErrOf result DiskFault → ⊥) → after.disk ≡ before.disk
  pub out_counts : before.out ≤ after.out
  pub out_cause : IsErrOf result OutputFault → FaultRose before.out after.out
  pub out_quiet : (IsErrOf result OutputFault → ⊥) → after.out ≡ before.out
