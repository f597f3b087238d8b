-- Worlds by their parts.
use Rattle.std.proofs.Common.{◌≡◌, ℕ, List, [], ◌∷◌, length, replicate, refl, sym, ap, ◌∙◌}
use Rattle.std.proofs.lemmas.List.{length-replicate}
use Rattle.outside.specs.DiskModel.{now}
use Rattle.vo_spec.specs.declared.records.Entry.{Entry}
use Rattle.vo_spec.specs.declared.records.Record.{Record}
use Rattle.owner_roots.specs.Owners.{first_roots}
use Rattle.owner_state.specs.Stepping.{first_entry}
use Rattle.vo_spec.specs.Secret.{Secret}
use Rattle.vo_world.specs.Steps.{empty_disk, gain_records, start, with_entry}
use Rattle.vo_world.specs.WorldModel.{WorldModel, records_of}

pub same_model : (a b : WorldModel) → a.key ≡ b.key → a.roots ≡ b.roots → a.entries ≡ b.entries → a.drive ≡ b.drive → a.since ≡ b.since
    → a.leasts ≡ b.leasts → a.accepted ≡ b.accepted → a.released ≡ b.released → a ≡ b
same_model a b key roots entries drive since leasts accepted released = λ i. record {
  key = key i;
  roots = roots i;
  entries = entries i;
  drive = drive i;
  since = since i;
  leasts = leasts i;
  accepted = accepted i;
  released = released i;
}

pub start_is : (w : WorldModel) (clients : ℕ) → w.roots ≡ first_roots → w.entries ≡ first_entry w.key ∷ [] → w.drive ≡ with_entry [] (first_entry w.key) empty_disk
    → w.since ≡ now w.drive → w.leasts ≡ replicate clients 0 → w.accepted ≡ [] → w.released ≡ [] → w ≡ start w.key clients
unfolding start
start_is w clients roots entries drive since leasts accepted released =
    same_model w (start w.key clients) refl roots entries drive (since ∙ ap now drive) leasts accepted released

pub gained_is : (a b : List Record) (xs ys : List Entry) (out : List Record) → a ≡ b → xs ≡ ys → out ≡ gain_records a (records_of xs)
    → gain_records b (records_of ys) ≡ out
gained_is a b xs ys out released entries is =
    sym (is ∙ ap (λ (rs : List Record). gain_records rs (records_of xs)) released ∙ ap (λ (es : List Entry). gain_records b (records_of es)) entries)

pub start_count : (key : Secret) (clients : ℕ) → length (start key clients).leasts ≡ clients
unfolding start
start_count key clients = length-replicate clients 0
