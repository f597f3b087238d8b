use Rattle.std.proofs.Common.{◌≡◌, ◌≤◌, ℕ, List, length, sym, ap, ◌∙◌, subst}
use Rattle.vo_spec.specs.Journals.{max_proofs, max_signature}
use Rattle.vo_spec.specs.Keys.{key_signature_len, leaf_of, lms_valid}
use Rattle.vo_spec.specs.Secret.{public_of_secret, lms_signature}
use Rattle.vo_laws.proofs.SealedLaws.{signatures_short}
use Rattle.owner_roots.specs.Owners.{record_of_roots}
use Rattle.owner_state.proofs.OwnerSteps.{signed_for, signed_is}
use Rattle.owner_state.proofs.entry_signing.sign_entry.Goals as goal

pub returns-in-Ok-clause-value : goal.returns-in-Ok-clause-value
returns-in-Ok-clause-value c =
    signed_is c.args.key.now c.args.roots.now c.args.batch.commands c.args.proofs.items c.from_vec.result c.record_of_roots-rec.result c.from_vec-in-Ok.result
    (c.record_of_roots-rec.ensures.value ∙ ap (λ (key : List ℕ). record_of_roots key c.args.roots.now) c.public.ensures.value)
    c.from_vec.ensures
    (c.from_vec-in-Ok.ensures ∙ c.in-Ok.ensures.bytes ∙ ap (lms_signature c.args.key.now c.args.roots.now.version) c.record_bytes.ensures)

pub returns-in-Ok-clause-signed : goal.returns-in-Ok-clause-signed
returns-in-Ok-clause-signed c =
    signed_for (public_of_secret c.args.key.now) c.args.roots.now _
    (c.record_of_roots-rec.ensures.value ∙ ap (λ (key : List ℕ). record_of_roots key c.args.roots.now) c.public.ensures.value)
    (ap (leaf_of (public_of_secret c.args.key.now)) c.from_vec-in-Ok.ensures ∙ c.in-Ok.ensures.by)
    (ap (λ (bytes : List ℕ). lms_valid (public_of_secret c.args.key.now) bytes c.from_vec-in-Ok.result) (sym c.record_bytes.ensures)
    ∙ ap (lms_valid (public_of_secret c.args.key.now) c.record_bytes.result) c.from_vec-in-Ok.ensures ∙ c.in-Ok.ensures.valid)

pub returns-in-Ok-clause-fits : goal.returns-in-Ok-clause-fits
returns-in-Ok-clause-fits c =
    let long : length c.from_vec-in-Ok.result ≡ key_signature_len (public_of_secret c.args.key.now) = ap length c.from_vec-in-Ok.ensures ∙ c.in-Ok.ensures.len in
    record {
      batch = c.requires.batch;
      proofs = subst (λ (bytes : List ℕ). length bytes ≤ max_proofs) (sym c.from_vec.ensures) c.requires.proofs;
      rec = c.record_of_roots-rec.ensures.fits;
      signature = subst (λ (n : ℕ). n ≤ max_signature) (sym long) (signatures_short (public_of_secret c.args.key.now));
    }
