-- How many bytes the tokens of a batch have: those of its text, in which they stand one behind the
-- other.
use Rattle.std.proofs.Common.{◌≡◌, ℕ, zero, suc, ◌+◌, ◌-◌, ◌≤◌, arith, Bool, true, false, cond, List, [], ◌∷◌, ◌++◌, length, Result, Ok, Err, refl, sym, ap, ◌∙◌, subst, append_assoc}
use Rattle.std.specs.Prelude.{nat_lt, ◌&&◌, ◌||◌}
use Rattle.std.specs.List.{AllByRecursion}
use Rattle.std.proofs.lemmas.Bool.Decides.{nat_tests}
use Rattle.grammar.specs.Text.{Nests, NestsIn, Repeats, Spells}
use Rattle.sql_tokens.specs.declared.kinds.TokenKind.TheVariants as k
use Rattle.sql_tokens.specs.declared.lexemes.TokenFault.{TokenFault}
use Rattle.sql_tokens.specs.Kinds.{same_kind}
use Rattle.sql_tokens.specs.Lex.{Token, Placed, is_blank, token_at, then_tokens, at_place, tokens_from, tokens_of}
use Rattle.vo_spec.specs.declared.tables.Batch.{Batch}
use Rattle.vo_spec.specs.Batches.{batch_bytes}
use Rattle.sql_text.specs.Tokens.{sql, IsToken}
use Rattle.sql_text.specs.Rules.{followed_by}
use Rattle.sql_text.specs.Queries.{conditions_of}
use Rattle.sql_text.specs.Commands.{batch, script}
use Rattle.sql_text.specs.Texts.{without_places, IsTextOf}
use Rattle.sql_text.specs.Scripts.{closes, commits, has_long, IsScript}
use Rattle.sql_text.proofs.TokenEnds.{token_inside}
use Rattle.sql_text.proofs.Weights.{weigh, some_byte, IsOther, others}
use Rattle.sql_text.proofs.BatchSizes.{batch_small, batch_avoids}

-- each token begins where the one before has ended, or later
abbrev pub InOrder : ℕ → ℕ → List Placed → Type 0
InOrder from end [] = from ≤ end
InOrder from end (p ∷ ps) = (from ≤ p.at) × InOrder (p.at + length p.token.text) end ps

abbrev AreInOrder : ℕ → ℕ → Result (List Placed) (TokenFault × ℕ) → Type 0
AreInOrder from end (Ok ps) = InOrder from end ps
AreInOrder from end (Err e) = Unit {0}

earlier : (from before end : ℕ) (ps : List Placed) → before ≤ from → InOrder from end ps → InOrder before end ps
earlier from before end [] h i = omega (arith, h, i)
earlier from before end (p ∷ ps) h i = (omega (arith, h, i.0), i.1)

are_earlier : (from before end : ℕ) (r : Result (List Placed) (TokenFault × ℕ)) → before ≤ from → AreInOrder from end r → AreInOrder before end r
are_earlier from before end (Ok ps) h i = earlier from before end ps h i
are_earlier from before end (Err e) h i = tt

followed_order : (at end : ℕ) (t : Token) (r : Result (List Placed) (TokenFault × ℕ)) → AreInOrder (at + length t.text) end r → AreInOrder at end (then_tokens (record { token = t; at = at }) r)
followed_order at end t (Ok ps) i = (omega arith, i)
followed_order at end t (Err e) i = tt

placed_order : (at end : ℕ) (r : Result Token TokenFault) (rest : ℕ → Result (List Placed) (TokenFault × ℕ)) → ((t : Token) → r ≡ Ok t → AreInOrder (at + length t.text) end (rest (length t.text - 1)))
    → AreInOrder at end (at_place at r rest)
placed_order at end (Ok t) rest h = followed_order at end t (rest (length t.text - 1)) (h t refl)
placed_order at end (Err lapse) rest h = tt

from_order : (at within : ℕ) (z : List ℕ) → within ≤ length z → AreInOrder (at + within) (at + length z) (tokens_from at within z)
unfolding tokens_from
from_order at within [] h = omega (arith, h)
from_order at (suc within) (b ∷ z) h =
    let from : at + 1 + within ≡ at + suc within = omega arith in
    let end : at + 1 + length z ≡ at + length (b ∷ z) = omega arith in
    subst (λ n. AreInOrder n (at + length (b ∷ z)) (tokens_from (at + 1) within z)) from
    (subst (λ n. AreInOrder (at + 1 + within) n (tokens_from (at + 1) within z)) end (from_order (at + 1) within z (omega (arith, h))))
from_order at zero (b ∷ z) h =
    let end : at + 1 + length z ≡ at + length (b ∷ z) = omega arith in
    are_earlier at (at + 0) (at + length (b ∷ z)) _ (omega arith)
    (by_rest (λ n few. subst (λ m. AreInOrder (at + 1 + n) m (tokens_from (at + 1) n z)) end (from_order (at + 1) n z few)))
  where
    behind : ((n : ℕ) → n ≤ length z → AreInOrder (at + 1 + n) (at + length (b ∷ z)) (tokens_from (at + 1) n z))
        → (t : Token) → token_at (b ∷ z) ≡ Ok t → AreInOrder (at + length t.text) (at + length (b ∷ z)) (tokens_from (at + 1) (length t.text - 1) z)
    behind next t e =
        let size = token_inside b z t e in
        are_earlier (at + 1 + (length t.text - 1)) (at + length t.text) (at + length (b ∷ z)) _ (omega (arith, size.0)) (next (length t.text - 1) (omega (arith, size.1)))

    by_blank : (c : Bool) → AreInOrder (at + 1 + 0) (at + length (b ∷ z)) (tokens_from (at + 1) 0 z) → AreInOrder at (at + length (b ∷ z)) (at_place at (token_at (b ∷ z)) (λ n. tokens_from (at + 1) n z))
        → AreInOrder at (at + length (b ∷ z)) (cond c (tokens_from (at + 1) 0 z) (at_place at (token_at (b ∷ z)) (λ n. tokens_from (at + 1) n z)))
    by_blank true f g = are_earlier (at + 1 + 0) at (at + length (b ∷ z)) _ (omega arith) f
    by_blank false f g = g

    by_rest : ((n : ℕ) → n ≤ length z → AreInOrder (at + 1 + n) (at + length (b ∷ z)) (tokens_from (at + 1) n z))
        → AreInOrder at (at + length (b ∷ z)) (cond (is_blank b) (tokens_from (at + 1) 0 z) (at_place at (token_at (b ∷ z)) (λ n. tokens_from (at + 1) n z)))
    by_rest next =
        by_blank (is_blank b) (next 0 (omega arith)) (placed_order at (at + length (b ∷ z)) (token_at (b ∷ z)) (λ n. tokens_from (at + 1) n z) (λ t e. behind next t e))

in_order : (text : List ℕ) (ps : List Placed) → tokens_of text ≡ Ok ps → InOrder 0 (length text) ps
in_order text ps e =
    let end : 0 + length text ≡ length text = omega arith in
    subst (AreInOrder 0 (length text)) e (subst (λ n. AreInOrder 0 n (tokens_from 0 0 text)) end (from_order 0 0 text (omega arith)))

order_weighs : (from end : ℕ) (ps : List Placed) → InOrder from end ps → from + weigh (without_places ps) ≤ end
order_weighs from end [] i = omega (arith, i)
order_weighs from end (p ∷ ps) i = omega (arith, i.0, order_weighs (p.at + length p.token.text) end ps i.1)

-- the batch of a text of at most 65,536 bytes
pub text_small : (text : List ℕ) (b : Batch) → IsTextOf 65536 batch text b → length (batch_bytes b.commands) ≤ 1048576
text_small text b (few, ps, scanned, s) =
    batch_small (NestsIn conditions_of true 32) (without_places ps) b s (omega (arith, few, order_weighs 0 (length text) ps (in_order text ps scanned)))

-- Scripts.

-- what stands behind a batch's tokens, a COMMIT and its `;`
pub record Closed (from start end : ℕ) (ts y : List Token) : Type 0 where
  pub rest : List Placed
  pub next : ℕ
  pub same : without_places rest ≡ y
  pub fits : from + weigh ts ≤ start + 65536
  pub order : InOrder next end rest
  pub short : has_long next false rest ≡ false

-- no batch is too long, the first of these tokens
step_closed : (start : ℕ) (p : Placed) (ps : List Placed) (c : Bool) → closes c p ≡ true → has_long start c (p ∷ ps) ≡ false
    → (p.at ≤ start + 65536) × (has_long (p.at + 1) false ps ≡ false)
step_closed start p ps c e h = by_long (nat_lt 65536 (p.at - start)) refl (subst (λ z. cond z (nat_lt 65536 (p.at - start) || has_long (p.at + 1) false ps) (has_long start (commits p) ps) ≡ false) e h)
  where
    by_long : (b : Bool) → nat_lt 65536 (p.at - start) ≡ b → (b || has_long (p.at + 1) false ps) ≡ false → (p.at ≤ start + 65536) × (has_long (p.at + 1) false ps ≡ false)
    by_long true f g = absurd (cc)
    by_long false f g = let few : p.at - start ≤ 65536 = grind (arith, nat_tests) in (omega (arith, few), g)

module _ (end : ℕ) where
  walk : (from start : ℕ) (ts y : List Token) (c s : Token) (ps : List Placed) → without_places ps ≡ ts ++ c ∷ s ∷ y → AllByRecursion IsOther ts
      → same_kind c.kind k.Commit ≡ true → same_kind s.kind k.Semicolon ≡ true → 1 ≤ length s.text → InOrder from end ps → has_long start false ps ≡ false
      → Closed from start end ts y
  walk from start [] y c s [] e o f g some i h = absurd (cc)
  walk from start [] y c s (p ∷ []) e o f g some i h = absurd (cc)
  walk from start [] y c s (p ∷ q ∷ ps) e o f g some i h =
      let commit : p.token ≡ c = cc in
      let semicolon : q.token ≡ s = cc in
      let others : without_places ps ≡ y = cc in
      let committed : commits p ≡ true = ap (λ (t : Token). same_kind t.kind k.Commit) commit ∙ f in
      let ended : closes (commits p) q ≡ true = ap (λ z. z && same_kind q.token.kind k.Semicolon) committed ∙ ap (λ (t : Token). same_kind t.kind k.Semicolon) semicolon ∙ g in
      let last = step_closed start q ps (commits p) ended h in
      let byte : length q.token.text ≡ length s.text = ap (λ (t : Token). length t.text) semicolon in
      record {
        rest = ps;
        next = q.at + 1;
        same = others;
        fits = omega (arith, i.0, i.1.0, last.0);
        order = earlier (q.at + length q.token.text) (q.at + 1) end ps (omega (arith, byte, some)) i.1.1;
        short = last.1;
      }
  walk from start (t ∷ ts) y c s [] e o f g some i h = absurd (cc)
  walk from start (t ∷ ts) y c s (p ∷ ps) e o f g some i h =
      let same : p.token ≡ t = cc in
      let others : without_places ps ≡ ts ++ c ∷ s ∷ y = cc in
      let other : commits p ≡ false = ap (λ (u : Token). same_kind u.kind k.Commit) same ∙ o.0 in
      let size : length p.token.text ≡ length t.text = ap (λ (u : Token). length u.text) same in
      let tail = walk (p.at + length p.token.text) start ts y c s ps others o.1 f g some i.1 (subst (λ z. has_long start z ps ≡ false) other h) in
      record { rest = tail.rest; next = tail.next; same = tail.same; fits = omega (arith, i.0, size, tail.fits); order = tail.order; short = tail.short }

-- a batch's tokens, and the two that close it
abbrev IsClosed : Nests sql → List Token → Batch → Type 0
IsClosed N x b =
    (ts : List Token) × (c s : Token) × (x ≡ ts ++ c ∷ s ∷ []) × Spells N true batch ts b × (c.kind ≡ k.Commit) × (s.kind ≡ k.Semicolon) × IsToken s

closed_parts : (N : Nests sql) (x : List Token) (b : Batch) → Spells N true (followed_by (followed_by batch k.Commit) k.Semicolon) x b → IsClosed N x b
unfolding followed_by
closed_parts N x b (a, (x1, y1, e1, (a2, (x2, y2, e2, s2, (real2, kind2, f2)), g2), (real1, kind1, f1)), g1) =
    let all : x ≡ x2 ++ a2.1 ∷ a.1 ∷ [] =
    e1 ∙ ap (λ z. z ++ y1) (e2 ∙ ap (λ z. x2 ++ z) f2) ∙ ap (λ z. (x2 ++ a2.1 ∷ []) ++ z) f1 ∙ append_assoc x2 (a2.1 ∷ []) (a.1 ∷ []) in
    (x2, a2.1, a.1, all, subst (Spells N true batch x2) (sym (g1 ∙ g2)) s2, kind2, kind1, real1)

abbrev pub IsSmall : Batch → Type 0
IsSmall b = length (batch_bytes b.commands) ≤ 1048576

batches_small : (N : Nests sql) (end from start : ℕ) (bs : List Batch) (ts : List Token) (ps : List Placed) → without_places ps ≡ ts
    → Repeats (Spells N true (followed_by (followed_by batch k.Commit) k.Semicolon)) ts bs → start ≤ from → InOrder from end ps → has_long start false ps ≡ false → AllByRecursion IsSmall bs
batches_small N end from start [] ts ps e r f i h = tt
batches_small N end from start (b ∷ bs) ts ps e (x, y, g, s, r) f i h =
    by_parts (closed_parts N x b s) (λ start2 ps2. batches_small N end start2 start2 bs y ps2)
  where
    by_parts : IsClosed N x b
        → ((start2 : ℕ) (ps2 : List Placed) → without_places ps2 ≡ y → Repeats (Spells N true (followed_by (followed_by batch k.Commit) k.Semicolon)) y bs → start2 ≤ start2 → InOrder start2 end ps2
        → has_long start2 false ps2 ≡ false → AllByRecursion IsSmall bs)
        → AllByRecursion IsSmall (b ∷ bs)
    by_parts (us, c, z, all, spelled, commit, semicolon, real) again =
        let whole : without_places ps ≡ us ++ c ∷ z ∷ y = e ∙ g ∙ ap (λ w. w ++ y) all ∙ append_assoc us (c ∷ z ∷ []) y in
        let rest = walk end from start us y c z ps whole (others N batch batch_avoids us b spelled)
        (ap (λ w. same_kind w k.Commit) commit) (ap (λ w. same_kind w k.Semicolon) semicolon) (some_byte z.text z real) i h in
        (batch_small N us b spelled (omega (arith, f, rest.fits)), again rest.next rest.rest rest.same r (omega arith) rest.order rest.short)

-- each batch of a script
pub script_small : (text : List ℕ) (batches : List Batch) → IsScript text batches → AllByRecursion IsSmall batches
unfolding script
script_small text batches (_, ps, scanned, (fit, r), short) =
    batches_small (NestsIn conditions_of true 32) (length text) 0 0 batches (without_places ps) ps refl r (omega arith) (in_order text ps scanned) short
