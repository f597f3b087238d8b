-- Counts of bytes that are held.
use Rattle.std.proofs.Common.{◌≡◌, ℕ, ◌+◌, ◌<◌, ◌≤◌, Bool, true, false, List, [], length, Some, refl, sym, ap, subst, arith}
use Rattle.std.specs.Prelude.{IsTrue}
use Rattle.std.proofs.lemmas.List.{length-append}
use Rattle.vo_spec.specs.Bytes.{u16_bytes, u64_bytes, string}
use Rattle.tree_stream.specs.declared.findings.Findings.{Findings}
use Rattle.tree_stream.specs.declared.state.State.{State}
use Rattle.tree_stream.specs.declared.state.State.TheVariants.{Node, Separator, Key, Row, Cell, Complete, Invalid}
use Rattle.tree_stream.specs.declared.stream.TreeStream.{TreeStream}
use Rattle.tree_stream.specs.Keeping.{kept_count, open_values, rows_bytes, values_bytes}
use Rattle.tree_stream.specs.Places.{HasNeededAndToken, HasNeededEntries}
use Rattle.tree_stream.specs.Streams.{IsBehind, held_in, target_in}
use Rattle.tree_stream.specs.Summaries.{complete_digest, is_settled}
use Rattle.tree_stream.specs.Tokens.{token_size}
use Rattle.tree_stream.proofs.KeepingLaws.{held_within}
use Rattle.tree_stream.proofs.Sizes.{token_small}

pub length-u64 : (n : ℕ) → length (u64_bytes n) ≡ 8
unfolding u64_bytes
length-u64 n = refl

length-u16 : (n : ℕ) → length (u16_bytes n) ≡ 2
unfolding u16_bytes
length-u16 n = refl

pub length-string : (bytes : List ℕ) → length (string bytes) ≡ 2 + length bytes
length-string bytes = omega (arith, length-append (u16_bytes (length bytes)) bytes, length-u16 (length bytes))

-- The bytes of a token that isn't whole.

within_token : (state : State) (partial : List ℕ) (settled : Bool) → is_settled state ≡ settled → length partial < token_size state partial → (IsTrue (is_settled state) → partial ≡ []) → length partial ≤ 1028
within_token state partial true is short kept = omega (arith, ap (λ (t : List ℕ). length t) (kept is))
within_token state partial false is short kept = omega (arith, short, token_small state partial is)

pub held_needed : (stream : TreeStream) (bytes : List ℕ) (count : ℕ) → count ≤ held_in stream → IsBehind stream bytes → HasNeededAndToken (target_in stream).interval bytes count
held_needed stream bytes count le behind =
    let context = stream.machine.context in
    let state = stream.machine.state in
    let P : List ℕ → Type 0 = λ t. HasNeededEntries (target_in stream).interval t (kept_count context state) in
    record {
      needed = kept_count context state;
      has_needed = subst P (sym behind.parts) (held_within context state behind.taken stream.partial.items behind.at.1);
      within = omega (arith, le, within_token state stream.partial.items (is_settled state) refl stream.short stream.kept);
    }

-- A tree that has ended: the rows are all that is held.

ended_at : (state : State) (d : List ℕ) → complete_digest state ≡ Some d → IsTrue (is_settled state) × (length (values_bytes (open_values state)) ≡ 0)
ended_at (Complete digest) d is = (refl, refl)
ended_at Invalid d is = absurd cc
ended_at (Node visited) d is = absurd cc
ended_at (Separator head) d is = absurd cc
ended_at (Key leaf) d is = absurd cc
ended_at (Row leaf) d is = absurd cc
ended_at (Cell row) d is = absurd cc

pub held_ended : (stream : TreeStream) (d : List ℕ) (found : Findings) → complete_digest stream.machine.state ≡ Some d → found ≡ stream.machine.context.findings → held_in stream ≡ length (rows_bytes found.rows)
held_ended stream d found is same =
    let ended = ended_at stream.machine.state d is in
    omega (arith, ended.1, ap (λ (t : List ℕ). length t) (stream.kept ended.0), ap (λ (f : Findings). length (rows_bytes f.rows)) same)
