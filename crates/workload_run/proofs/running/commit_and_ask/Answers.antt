use Rattle.std.proofs.Common.{◌≡◌, ap, sym, subst, ◌∙◌, arith}
use Rattle.std.specs.List.{AllByRecursion}
use Rattle.vo_spec.specs.Journals.{FitsEntry, journal_bytes}
use Rattle.vo_spec.specs.Secret.{Secret, public_of_secret}
use Rattle.owner_state.specs.Sealing.{commands_of}
use Rattle.workload_run.proofs.RunLaws.{all_fit, all_room, are_readers, journal_owned, rows_behind}
use Rattle.workload_run.proofs.StandLaws.{together}
use Rattle.workload_run.proofs.running.commit_and_ask.Goals as goal

pub journal_bytes-requires : goal.journal_bytes-requires
journal_bytes-requires c =
    subst (AllByRecursion FitsEntry) (sym c.as_slice.ensures.value)
    (all_fit c.in_ok-parties.parties.owner.key (commands_of c.args.batches.now)
    c.commit_each.new.parties c.in_ok-commit_each.ensures)

pub readers_of-requires : goal.readers_of-requires
readers_of-requires c =
    let key : c.public.result ≡ public_of_secret c.in_ok-parties.parties.owner.key =
    c.public.ensures.value
    ∙ ap (λ (k : Secret). public_of_secret k) (sym c.in_ok-parties.ensures.key) in
    let journal : c.deref.result.now ≡ journal_bytes c.commit_each.new.parties.entries.items =
    c.deref.ensures.value ∙ c.in_ok-journal.ensures ∙ ap journal_bytes c.as_slice.ensures.value in (
      _,
      journal_owned c.in_ok-parties.parties.owner.key (commands_of c.args.batches.now)
          c.commit_each.new.parties c.in_ok-commit_each.ensures c.public.result c.deref.result.now key
          journal,
    )

pub ask_each-requires-clause-together : goal.ask_each-requires-clause-together
ask_each-requires-clause-together c =
    together c.in_ok-parties.parties.owner.key (commands_of c.args.batches.now)
    c.commit_each.new.parties c.in_ok-commit_each.ensures

pub ask_each-requires-clause-readers : goal.ask_each-requires-clause-readers
ask_each-requires-clause-readers c =
    let key : c.public.result ≡ public_of_secret c.in_ok-parties.parties.owner.key =
    c.public.ensures.value
    ∙ ap (λ (k : Secret). public_of_secret k) (sym c.in_ok-parties.ensures.key) in
    let journal : c.deref.result.now ≡ journal_bytes c.commit_each.new.parties.entries.items =
    c.deref.ensures.value ∙ c.in_ok-journal.ensures ∙ ap journal_bytes c.as_slice.ensures.value in
    are_readers c.in_ok-parties.parties.owner.key (commands_of c.args.batches.now)
    c.commit_each.new.parties c.in_ok-commit_each.ensures c.in_ok-readers.readers c.public.result
    c.deref.result.now key journal c.in_ok-readers.ensures.client_key c.in_ok-readers.ensures.least
    c.in_ok-readers.ensures.auditor_key c.in_ok-readers.ensures.journal

pub ask_each-requires-clause-room : goal.ask_each-requires-clause-room
ask_each-requires-clause-room c =
    all_room c.in_ok-parties.parties.owner.key (commands_of c.args.batches.now)
    c.commit_each.new.parties c.in_ok-commit_each.ensures c.args.queries.now c.requires.room

pub ask_each-requires-clause-few : goal.ask_each-requires-clause-few
ask_each-requires-clause-few c =
    let same = rows_behind c.in_ok-parties.parties.owner.key (commands_of c.args.batches.now)
    c.commit_each.new.parties c.in_ok-commit_each.ensures c.args.queries.now in
    omega (arith, same, c.requires.few)

pub returns-clause-rows : goal.returns-clause-rows
returns-clause-rows c =
    c.in_ok-counts.ensures.rows
    ∙ rows_behind c.in_ok-parties.parties.owner.key (commands_of c.args.batches.now)
    c.commit_each.new.parties c.in_ok-commit_each.ensures c.args.queries.now
