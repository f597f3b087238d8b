-- Which queries' replies are checked as they come, and which are kept up to their end.
use Rattle.std.specs.Prelude.{◌≡◌, None}
use Rattle.vo_spec.specs.Conditions.{Query}

-- one tree is read, for a need that no row of it changes
abbrev pub IsStreamed : Query → Type 0
IsStreamed q = (q.join ≡ None) × (q.limit ≡ None)

-- any other query
abbrev pub IsBuffered : Query → Type 0
IsBuffered q = IsStreamed q → ⊥
