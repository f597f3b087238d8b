-- What a signed record's signature is like.
use Rattle.std.proofs.Common.{◌≡◌, ℕ, ◌<◌, ◌≤◌, List, Some, length, sym, ◌∙◌, subst, arith}
use Rattle.vo_spec.specs.declared.records.Record.{Record}
use Rattle.vo_spec.specs.Records.{record_bytes}
use Rattle.vo_spec.specs.Journals.{max_signature}
use Rattle.vo_spec.specs.Keys.{key_tree}
use Rattle.vo_spec.specs.Owners.{IsSigned}
use Rattle.vo_laws.proofs.SealedLaws.{signatures_short}
use Rattle.lms_sign.proofs.ValidSignatures.{IsOne, told_of_valid, leaf_count_few}

module _ (key : List ℕ) (rec : Record) (signature : List ℕ) (signed : IsSigned key rec signature) where
  told : IsOne key signature
  told = told_of_valid key (record_bytes rec) signature signed.valid

  pub key_long : length (key_tree key) ≡ 56
  key_long = told.whole

  pub signed_short : length signature ≤ max_signature
  signed_short = subst (λ (n : ℕ). n ≤ max_signature) (sym told.len_is) (signatures_short key)

  -- a version that is signed has a next one
  pub version_below : rec.version < 1125899906842624
  version_below =
      let version : told.leaf ≡ rec.version = same told.leaf rec.version (sym told.leaf_is ∙ signed.leaf) in
      omega (arith, version, told.leaf_in, leaf_count_few key)
    where
      same : (a b : ℕ) → Some a ≡ Some b → a ≡ b
      same a b e = cc
