-- What `ask` comes to, step by step: the key, the query, the frame that comes, and its check.
use Rattle.std.proofs.Common.{◌≡◌, ℕ, ◌+◌, ◌-◌, ◌<◌, ◌≤◌, ◌^◌, Bool, true, false, List, [], ◌∷◌, ◌++◌, length, take, Option, Some, None, ◌⊎◌, Result, Ok, Err, refl, sym, ap, ◌∙◌, subst, inl, inr, arith, leb-true, le-leb, eqb-true, length-append}
use Rattle.std.specs.Prelude.{◌↔◌, ◌==◌, ◌&&◌, IfSome, IsTrue, nat_lt, nat_le, option_map, if◌then◌else◌}
use Rattle.std.proofs.lemmas.List.{length-take}
use Rattle.std.specs.Option.{option_map_or}
use Rattle.std.specs.Str.{IsUtf8}
use Rattle.std.proofs.lemmas.Bool.{and_from}
use Rattle.std.proofs.lemmas.Bool.Decides.{nat_tests}
use Rattle.outside.specs.Shelf.{Files}
use Rattle.outside.specs.Outputs.{Output}
use Rattle.link_frames.specs.declared.awaits.Awaits.TheVariants.{Reply as ReplyAwaited}
use Rattle.link_frames.specs.declared.frame_kind.FrameKind.{FrameKind}
use Rattle.link_frames.specs.declared.frame_kind.FrameKind.TheVariants as kind
use Rattle.link_frames.specs.Frames.{Coming, Whole, frame_bytes, is_length, may_come}
use Rattle.link_frames.proofs.FrameLaws.{read_back}
use Rattle.vo_spec.specs.declared.checks.Answer.{Answer as Accepted}
use Rattle.vo_spec.specs.declared.checks.CheckFault.{CheckFault}
use Rattle.vo_spec.specs.declared.records.Record.{Record}
use Rattle.vo_spec.specs.declared.tables.Command.{Command}
use Rattle.vo_spec.specs.Checks.{CheckOf, answer_to}
use Rattle.vo_spec.specs.Conditions.{FitsQuery, Query}
use Rattle.vo_spec.specs.Results.{result}
use Rattle.vo_spec.specs.Tables.{tables_after}
use Rattle.batch_format.proofs.ReaderLaws.{some_is}
use Rattle.sql_text.specs.Limits.{max_sql_bytes}
use Rattle.sql_text.proofs.QueryFits.{printable_fits, query_fits}
use Rattle.sql_text.proofs.TokenEnds.{utf8_tokens}
use Rattle.round_trips.specs.Trips.{plain_answer}
use Rattle.vo_spec.specs.Honest.{honest_record, honest_reply, honest_trees}
use Rattle.vo_spec.specs.declared.signatures.Levels.TheVariants.{One, Two}
use Rattle.vo_spec.specs.Keys.{names_sets, is_key_by, is_public_key}
use Rattle.vo_spec.specs.Replies.{max_reply, reply_bytes}
use Rattle.vo_commands.proofs.OwnerAudits.{one_reply}
use Rattle.store_requests.specs.Bodies.{query_at_bytes}
use Rattle.store_requests.proofs.BodyRounds.{query_at_again}
use Rattle.store_requests.proofs.TextReadings.{text_read}
use Rattle.row_bytes.proofs.ValueLaws.{u64_length}
use Rattle.vo_spec.specs.Bytes.{u64_bytes}
use Rattle.vo_store.specs.declared.fault.StoreFault.{StoreFault}
use Rattle.vo_store.specs.declared.fault.StoreFault.TheVariants as fault
use Rattle.vo_store.specs.declared.signed_record.SignedRecord.{SignedRecord}
use Rattle.vo_store.specs.Calls.{answer_of, answer_at_of, kept_at, reply_by_kept, reply_of_version, within_limit}
use Rattle.vo_store.specs.HonestStores.{IsAnswerBy, IsHonestAfter, IsInstalled, IsRecordOf}
use Rattle.vo_store.specs.StoreState.{StoreState, oldest_of}
use Rattle.vo_wire.specs.Answering.{KindAndBody, answer_by, code_of, query_answer, query_at_answer, reply_answer, reply_to}
use Rattle.vo_wire.proofs.AnswerLaws.{reply_within}
use Rattle.vo_commands.specs.Expected.{Allows, Checks, Expected, OfQuery, ask_expected, question_frame, with_answer, with_key, with_reply}
use Rattle.vo_commands.specs.Lines.{answer_output, asked_output, check_output, store_refusal}
use Rattle.vo_commands.specs.Texts.{IsQueryText}
use Rattle.vo_commands.proofs.QueryTexts.{has_byte}
use Rattle.honest_peers.specs.Asking.{IsAsked, batches_asked, question, version_asked}
use Rattle.honest_peers.proofs.ServedConnections.{served_answers}
use Rattle.honest_peers.proofs.Trading.{IsRequest}

-- Checks.

pub one_check : (key : List ℕ) (least : ℕ) (q : Query) (bytes : List ℕ)
    (a b : Result Accepted CheckFault) → CheckOf key least q bytes a → CheckOf key least q bytes b
    → a ≡ b
unfolding CheckOf
one_check key least q bytes a b (inl x) (inl y) = x.1 ∙ sym y.1
one_check key least q bytes a b (inl x) (inr (inl y)) = absurd (omega (arith, x.0, y.0))
one_check key least q bytes a b (inl x) (inr (inr y)) = absurd (omega (arith, x.0, y.0))
one_check key least q bytes a b (inr (inl x)) (inl y) = absurd (omega (arith, x.0, y.0))
one_check key least q bytes a b (inr (inr x)) (inl y) = absurd (omega (arith, x.0, y.0))
one_check key least q bytes a b (inr (inl x)) (inr (inl y)) = x.2 ∙ sym y.2
one_check key least q bytes a b (inr (inl x)) (inr (inr y)) = absurd (x.1 y.1 y.2)
one_check key least q bytes a b (inr (inr x)) (inr (inl y)) = absurd (y.1 x.1 x.2)
one_check key least q bytes a b (inr (inr x)) (inr (inr y)) = x.3
    ∙ ap (answer_to key least q) (one_reply bytes x.1 y.1 x.2 y.2) ∙ sym y.3

-- The key.

and_first : (a b : Bool) → IsTrue (a && b) → IsTrue a
and_first true b h = refl
and_first false b h = absurd (cc)

key_short : (key : List ℕ) → IsTrue (is_public_key key) → nat_lt 64 (length key) ≡ false
unfolding is_public_key
key_short key h = step (length key == 60) refl h
  where
    step : (b : Bool) → (length key == 60) ≡ b → IsTrue (is_key_by (if b then Two else One) key)
        → nat_lt 64 (length key) ≡ false
    step true e is = let long = eqb-true (length key) 60 e in grind (arith, nat_tests)
    step false e is =
        let long : IsTrue (length key == 56) = and_first (length key == 56) (names_sets key) is in
        grind (arith, nat_tests)

key_goes : (files : Files) (name key : List ℕ) → files name ≡ Some key → IsTrue (is_public_key key)
    → (rest : List ℕ → Expected) → with_key files name rest ≡ rest key
key_goes files name key is known rest = rw (is, key_short key known, known) refl

-- The query.

one_query : (text : List ℕ) (a b : Query) → IsUtf8 text → IsQueryText text a → IsQueryText text b
    → a ≡ b
one_query text a b utf8 x y = let both : Some a ≡ Some b = sym (text_read text a utf8 x)
    ∙ text_read text b utf8 y in cc

query_goes : (text : List ℕ) (q : Query) (output : Output) → IsUtf8 text → IsQueryText text q
    → (rest : Query → Expected) → Allows (OfQuery text rest) output ↔ Allows (rest q) output
query_goes text q output utf8 is rest = (to, λ allows. inl (q, is, allows))
  where
    to : Allows (OfQuery text rest) output → Allows (rest q) output
    to (inl found) = subst (λ (x : Query). Allows (rest x) output)
        (one_query text found.0 q utf8 found.1 is) found.2
    to (inr refused) = absurd (refused.0 q is)

-- The frame.

frame_goes : (k : FrameKind) (body tail : List ℕ) (queue : List (List ℕ))
    → IsTrue (may_come ReplyAwaited k) → IsTrue (is_length k (length body))
    → (rest : List ℕ → Expected)
    → with_reply (Some ((frame_bytes k body ++ tail) ∷ queue)) rest ≡ with_answer (Whole k body) rest
frame_goes k body tail queue may fits rest = ap (λ (first : Coming). with_answer first rest)
    (read_back ReplyAwaited k body tail may fits)

-- the kind and the body of the frame that asks
abbrev kind_asked : Option ℕ → FrameKind
kind_asked None = kind.Query
kind_asked (Some version) = kind.QueryAt

abbrev body_asked : Option ℕ → List ℕ → List ℕ
body_asked None text = text
body_asked (Some version) text = query_at_bytes version text

-- what the store answers
query_reply : (s : StoreState) (text : List ℕ) (at : Option ℕ) (q : Query) → IsUtf8 text
    → IsQueryText text q → IfSome at (λ version. version < 2 ^ 64)
    → reply_to s (kind_asked at) (body_asked at text) ≡ Some (reply_answer (answer_by s at q))
unfolding reply_to
query_reply s text None q utf8 is fits = ap (λ (o : Option Query). Some (query_answer s None o))
    (text_read text q utf8 is)
query_reply s text (Some version) q utf8 is fits =
    ap (option_map (query_at_answer s)) (query_at_again version text fits)
    ∙ ap (λ (o : Option Query). Some (query_answer s (Some version) o)) (text_read text q utf8 is)

body_length : (version : ℕ) (text : List ℕ) → length (query_at_bytes version text) ≡ 8 + length text
unfolding query_at_bytes
body_length version text = omega
    (arith, length-append (u64_bytes version) text, u64_length version)

-- the text fits a frame
question_is : (text : List ℕ) (at : Option ℕ) (q : Query) → IsQueryText text q
    → IsRequest (question_frame at text) (kind_asked at) (body_asked at text)
question_is text None q is = record {
  frame_is = refl;
  may = refl;
  fits = and_from _ _ (le-leb 1 (length text) (has_byte text q is))
      (le-leb (length text) 65536 is.0);
}
question_is text (Some version) q is =
    let long : length (query_at_bytes version text) ≡ 8 + length text = body_length version text in
    let some : 1 ≤ length text = has_byte text q is in
    let short : length text ≤ 65536 = is.0 in
    record {
      frame_is = refl;
      may = refl;
      fits = and_from _ _
          (le-leb 9 (length (query_at_bytes version text)) (omega (arith, long, some)))
          (le-leb (length (query_at_bytes version text)) 65544 (omega (arith, long, short)));
    }

pub nothing_installed : (s : StoreState) (at : Option ℕ) (q : Query) → s.installed ≡ None
    → answer_by s at q ≡ Err fault.Empty
unfolding answer_of answer_at_of
nothing_installed s None q none =
    ap (λ (o : Option SignedRecord). option_map_or
    (λ (r : SignedRecord). within_limit (reply_bytes (honest_reply q r.rec r.signature s.tables))) o
    (Err fault.Empty)) none
nothing_installed s (Some version) q none =
    ap (λ (o : Option SignedRecord). option_map_or (reply_of_version q version s) o
    (Err fault.Empty)) none

-- A version by which there is a reply.

-- what is installed where there is a reply by the newest version
installed_there : (s : StoreState) (q : Query) (bytes : List ℕ) → answer_of s q ≡ Ok bytes
    → (installed : SignedRecord) × (s.installed ≡ Some installed)
installed_there s q bytes e = step s.installed refl
  where
    step : (o : Option SignedRecord) → s.installed ≡ o
        → (installed : SignedRecord) × (s.installed ≡ Some installed)
    step (Some installed) is = (installed, is)
    step None is = let none = nothing_installed s None q is in absurd (cc)

-- the same by another version, which isn't behind the newest
kept_there : (s : StoreState) (version : ℕ) (q : Query) (bytes : List ℕ)
    → answer_at_of s version q ≡ Ok bytes → (installed : SignedRecord)
    × (s.installed ≡ Some installed) × (version ≤ installed.rec.version)
unfolding answer_at_of
kept_there s version q bytes e = step s.installed refl e
  where
    none_newer : (old new : Bool) (reply : Result (List ℕ) StoreFault) (why : StoreFault)
        → (if old && new then reply else Err why) ≡ Ok bytes → new ≡ true
    none_newer true true reply why f = refl
    none_newer true false reply why f = absurd (cc)
    none_newer false new reply why f = absurd (cc)

    step : (o : Option SignedRecord) → s.installed ≡ o
        → option_map_or (reply_of_version q version s) o (Err fault.Empty) ≡ Ok bytes
        → (installed : SignedRecord) × (s.installed ≡ Some installed)
        × (version ≤ installed.rec.version)
    step None is f = absurd (cc)
    step (Some r) is f =
        let oldest : ℕ = oldest_of r.rec.version in (
          r,
          is,
          leb-true version r.rec.version
              (none_newer (nat_le oldest version) (nat_le version r.rec.version)
              (reply_by_kept q (kept_at s.earlier r s.tables (version - oldest)))
              (fault.NoVersion version oldest r.rec.version) f),
        )

-- The numbers of a query's text have 64 bits with a sign.

query_numbers : (text : List ℕ) (q : Query) → IsUtf8 text → IsQueryText text q → FitsQuery q
query_numbers text q utf8 is =
    printable_fits q (query_fits max_sql_bytes text q (utf8_tokens text utf8) is)

-- Plain answers.

-- that clients accept what honest stores answer, by their newest version and by another
abbrev NewestAccepted : Type 0
NewestAccepted = (batches : List (List Command)) (s : StoreState) (installed : SignedRecord)
    (least : ℕ) (q : Query) (bytes : List ℕ) → IsHonestAfter batches s
    → s.installed ≡ Some installed → FitsQuery q → least ≤ installed.rec.version
    → answer_of s q ≡ Ok bytes
    → CheckOf s.key least q bytes
    (Ok (record { version = installed.rec.version; outcome = result q (tables_after batches) }))

abbrev KeptAccepted : Type 0
KeptAccepted = (batches : List (List Command)) (s : StoreState) (version least : ℕ) (q : Query)
    (bytes : List ℕ) → IsHonestAfter batches s → FitsQuery q → least ≤ version
    → answer_at_of s version q ≡ Ok bytes
    → CheckOf s.key least q bytes
    (Ok (record { version = version; outcome = result q (tables_after (take version batches)) }))

-- that they answer by each version that they keep
abbrev AreThere : Type 0
AreThere = (batches : List (List Command)) (s : StoreState) (installed : SignedRecord)
    (version : ℕ) (q : Query) → IsHonestAfter batches s → s.installed ≡ Some installed
    → oldest_of installed.rec.version ≤ version → version ≤ installed.rec.version
    → IsAnswerBy s.key (take version batches) q (answer_at_of s version q)

installed_version : (key : List ℕ) (batches : List (List Command)) (installed : SignedRecord)
    → IsRecordOf key batches installed → installed.rec.version ≡ length batches
unfolding honest_record
installed_version key batches installed is = ap (λ (r : Record). r.version) is.record_is

-- the version that is asked for is that of its batches
version_is : (batches : List (List Command)) (s : StoreState) (at : Option ℕ) (q : Query)
    (bytes : List ℕ) → IsHonestAfter batches s → answer_by s at q ≡ Ok bytes
    → length (batches_asked at batches) ≡ version_asked at batches
version_is batches s None q bytes honest e = refl
version_is batches s (Some version) q bytes honest e =
    let there = kept_there s version q bytes e in
    let is : IsRecordOf s.key batches there.0 = subst (IsInstalled s.key batches) there.1
    honest.installed in
    omega (
      arith,
      length-take version batches,
      there.2,
      installed_version s.key batches there.0 is,
    )

plain_check : NewestAccepted → KeptAccepted → (batches : List (List Command)) (s : StoreState)
    (at : Option ℕ) (least : ℕ) (q : Query) (bytes : List ℕ) → IsHonestAfter batches s → FitsQuery q
    → least ≤ version_asked at batches → answer_by s at q ≡ Ok bytes
    → CheckOf s.key least q bytes (Ok (plain_answer (batches_asked at batches) q))
plain_check newest kept batches s None least q bytes honest fits recent e =
    let there = installed_there s q bytes e in
    let is : IsRecordOf s.key batches there.0 = subst (IsInstalled s.key batches) there.1
    honest.installed in
    let version : there.0.rec.version ≡ length batches = installed_version s.key batches there.0
    is in
    let check = newest batches s there.0 least q bytes honest there.1 fits
    (subst (λ (n : ℕ). least ≤ n) (sym version) recent) e in
    subst (λ (n : ℕ). CheckOf s.key least q bytes
    (Ok (record { version = n; outcome = result q (tables_after batches) }))) version check
plain_check newest kept batches s (Some version) least q bytes honest fits recent e =
    subst (λ (n : ℕ). CheckOf s.key least q bytes
    (Ok (record { version = n; outcome = result q (tables_after (take version batches)) })))
    (sym (version_is batches s (Some version) q bytes honest e))
    (kept batches s version least q bytes honest fits recent e)

same_number : (n m : ℕ) → n ≡ m → (n == m) ≡ true
same_number n m is = grind (arith, nat_tests)

-- of the version that is asked for just the answer is printed
printed : (at : Option ℕ) (batches : List (List Command)) (answer : Accepted)
    → answer.version ≡ version_asked at batches
    → asked_output at answer ≡ answer_output answer
printed None batches answer is = refl
printed (Some version) batches answer is = rw (same_number answer.version version is) refl

-- All of `ask`.

module _ (s : StoreState) (key text : List ℕ) (at : Option ℕ) (least : ℕ) (files : Files)
    (q : Query) (coming : List ℕ) (queue : List (List ℕ)) (output : Output)
    (asked : IsAsked key text at files s q coming) where
  abbrev expected_output : Expected
  expected_output = ask_expected key text at least files (Some (coming ∷ queue))

  abbrev by_reply : List (List ℕ) → Expected
  by_reply connections = with_reply (Some connections) (λ r. Checks s.key at least q r)

  expected_is : expected_output ≡ OfQuery text
      (λ x. with_reply (Some (coming ∷ queue)) (λ r. Checks s.key at least x r))
  expected_is = key_goes files key s.key asked.key_is asked.is_key
      (λ k. OfQuery text (λ x. with_reply (Some (coming ∷ queue)) (λ r. Checks k at least x r)))

  goes : Allows expected_output output ↔ Allows (by_reply (coming ∷ queue)) output
  goes =
      subst (λ (x : Expected). Allows x output ↔ Allows (by_reply (coming ∷ queue)) output)
      (sym expected_is)
      (query_goes text q output asked.is_text asked.is_query
      (λ x. with_reply (Some (coming ∷ queue)) (λ r. Checks s.key at least x r)))

  -- the answer that comes is this
  came : (k : FrameKind) (body : List ℕ) → reply_answer (answer_by s at q) ≡ (k, body)
      → IsTrue (may_come ReplyAwaited k) → IsTrue (is_length k (length body))
      → by_reply (coming ∷ queue) ≡ with_answer (Whole k body) (λ r. Checks s.key at least q r)
  came k body e may fits =
      let each = served_answers s (question at text) coming asked.served.0 asked.served.1 in
      let found = each (kind_asked at) (body_asked at text) (reply_answer (answer_by s at q))
      (question_is text at q asked.is_query)
      (query_reply s text at q asked.is_text asked.is_query asked.is_version) in
      let frame : coming ≡ frame_bytes k body ++ found.0 = found.1
      ∙ ap (λ (a : KindAndBody). frame_bytes a.0 a.1 ++ found.0) e in
      ap (λ (bytes : List ℕ). by_reply (bytes ∷ queue)) frame
      ∙ frame_goes k body found.0 queue may fits (λ r. Checks s.key at least q r)

  pub refused : (why : StoreFault) → answer_by s at q ≡ Err why
      → Allows expected_output output ↔ (output ≡ store_refusal (code_of why))
  refused why e =
      let is = came kind.Refusal (code_of why ∷ []) (ap reply_answer e) refl refl in
      let after : Allows (by_reply (coming ∷ queue)) output ↔
      (output ≡ store_refusal (code_of why)) =
      subst (λ (x : Expected). Allows x output ↔ (output ≡ store_refusal (code_of why))) (sym is)
      (λ h. h, λ h. h) in
      (λ h. after.0 (goes.0 h), λ h. goes.1 (after.1 h))

  accepted : (bytes : List ℕ) (answer : Accepted) → answer_by s at q ≡ Ok bytes
      → CheckOf s.key least q bytes (Ok answer) → Allows expected_output output ↔
      (output ≡ asked_output at answer)
  accepted bytes answer e check =
      let fits : IsTrue (is_length kind.Reply (length bytes)) = le-leb (length bytes) max_reply
      (reply_within s at q bytes e) in
      let is = came kind.Reply bytes (ap reply_answer e) refl fits in
      let after : Allows (by_reply (coming ∷ queue)) output ↔ (output ≡ asked_output at answer) =
      subst (λ (x : Expected). Allows x output ↔ (output ≡ asked_output at answer)) (sym is)
      (to, λ h. (Ok answer, check, ap Some (sym h))) in
      (λ h. after.0 (goes.0 h), λ h. goes.1 (after.1 h))
    where
      to : Allows (Checks s.key at least q bytes) output → output ≡ asked_output at answer
      to told = some_is output (asked_output at answer)
          (sym told.2
          ∙ ap (check_output at) (one_check s.key least q bytes told.0 (Ok answer) told.1 check))

  pub answered : NewestAccepted → KeptAccepted → (batches : List (List Command)) (bytes : List ℕ)
      → IsHonestAfter batches s → least ≤ version_asked at batches → answer_by s at q ≡ Ok bytes
      → Allows expected_output output ↔
      (output ≡ answer_output (plain_answer (batches_asked at batches) q))
  answered newest kept batches bytes honest recent e =
      let answer : Accepted = plain_answer (batches_asked at batches) q in
      let fits : FitsQuery q = query_numbers text q asked.is_text asked.is_query in
      subst (λ (o : Output). Allows expected_output output ↔ (output ≡ o))
      (printed at batches answer (version_is batches s at q bytes honest e))
      (accepted bytes answer e (plain_check newest kept batches s at least q bytes honest fits recent e))

-- A version that is kept.

reply_or_too_large : (bytes : List ℕ) (answer : Result (List ℕ) StoreFault)
    → answer ≡ within_limit bytes → ((reply : List ℕ) × (answer ≡ Ok reply))
    ⊎ ((size : ℕ) × (answer ≡ Err (fault.TooLarge size)))
reply_or_too_large bytes answer is = by_test (nat_le (length bytes) max_reply) is
  where
    by_test : (test : Bool)
        → answer ≡ (if test then Ok bytes else Err (fault.TooLarge (length bytes)))
        → ((reply : List ℕ) × (answer ≡ Ok reply))
        ⊎ ((size : ℕ) × (answer ≡ Err (fault.TooLarge size)))
    by_test true e = inl (bytes, e)
    by_test false e = inr (length bytes, e)

pub answered_at : NewestAccepted → KeptAccepted → AreThere → (batches : List (List Command))
    (s : StoreState) (installed : SignedRecord) (key text : List ℕ) (version least : ℕ)
    (files : Files) (q : Query) (coming : List ℕ) (queue : List (List ℕ)) (output : Output)
    → IsHonestAfter batches s → s.installed ≡ Some installed
    → IsAsked key text (Some version) files s q coming
    → oldest_of installed.rec.version ≤ version → version ≤ installed.rec.version → least ≤ version
    → Allows (ask_expected key text (Some version) least files (Some (coming ∷ queue))) output
    → (output ≡ answer_output (plain_answer (take version batches) q))
    ⊎ (output ≡ store_refusal 3)
answered_at newest kept there batches s installed key text version least files q coming queue output
    honest is asked old new recent allows =
    by_answer (reply_or_too_large
    (reply_bytes (honest_reply q by.0.rec by.0.signature (honest_trees (take version batches))))
    (answer_at_of s version q) by.2)
  where
    by : IsAnswerBy s.key (take version batches) q (answer_at_of s version q)
    by = there batches s installed version q honest is old new

    by_answer : ((reply : List ℕ) × (answer_at_of s version q ≡ Ok reply))
        ⊎ ((size : ℕ) × (answer_at_of s version q ≡ Err (fault.TooLarge size)))
        → (output ≡ answer_output (plain_answer (take version batches) q))
        ⊎ (output ≡ store_refusal 3)
    by_answer (inl found) = inl
        ((answered s key text (Some version) least files q coming queue output asked newest kept
        batches found.0 honest recent found.1).0 allows)
    by_answer (inr large) = inr
        ((refused s key text (Some version) least files q coming queue output asked
        (fault.TooLarge large.0) large.1).0 allows)
