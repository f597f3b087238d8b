-- A frame that is put in two pieces.
use Rattle.std.proofs.Common.{◌≡◌, ℕ, ◌+◌, min, List, [], ◌∷◌, ◌++◌, length, take, get_or, Option, Some, None, Result, Ok, Err, OnOk, IsErr, IsErrOf, refl, sym, ap, ◌∙◌, subst, arith, append_assoc, append-nil}
use Rattle.std.proofs.lemmas.List.{take-append-le, take_min}
use Rattle.std.proofs.Math.Seq.{take-append-add}
use Rattle.outside.specs.declared.faults.PutFault.{PutFault}
use Rattle.outside.specs.declared.faults.PutFault.TheVariants as put_fault
use Rattle.outside.specs.ConnectionModel.{ConnectionModel, send_known, send_on}
use Rattle.vo_spec.specs.Bytes.{u32_bytes}
use Rattle.link_frames.specs.declared.frame_kind.FrameKind.{FrameKind}
use Rattle.link_frames.specs.Frames.{code_of, frame_bytes}

-- a front of a piece was put
abbrev pub PutsFrontOf : List ℕ → Option ConnectionModel → Option ConnectionModel → Type 0
PutsFrontOf piece before after = (n : ℕ) × (after ≡ send_known (take n piece) before)

pub sent_sent : (a b : List ℕ) (o : Option ConnectionModel) → send_known b (send_known a o) ≡ send_known (a ++ b) o
sent_sent a b None = refl
sent_sent a b (Some w) =
    ap (λ (bytes : List ℕ). Some (record w { sent = bytes })) (append_assoc w.sent a b)

sent_nothing : (o : Option ConnectionModel) → o ≡ send_known [] o
sent_nothing None = refl
sent_nothing (Some w) = ap (λ (bytes : List ℕ). Some (record w { sent = bytes })) (sym (append-nil w.sent))

-- a piece that was not put whole
pub fault_front : (fault : PutFault) (piece : List ℕ) (before after : Option ConnectionModel)
    → (IsErrOf {T = Unit {0}} (Err fault) put_fault.Failed → PutsFrontOf piece before after)
    → (IsErrOf {T = Unit {0}} (Err fault) put_fault.Memory → after ≡ before) → PutsFrontOf piece before after
fault_front put_fault.Failed piece before after failed memory = failed refl
fault_front put_fault.Memory piece before after failed memory = (0, memory refl ∙ sent_nothing before)

-- a front of the first of two pieces
pub first_front : (a b : List ℕ) (before after : Option ConnectionModel) → PutsFrontOf a before after
    → PutsFrontOf (a ++ b) before after
first_front a b before after h =
    let m : ℕ = min h.0 (length a) in
    let same : take m (a ++ b) ≡ take h.0 a = take-append-le m a b (omega arith) ∙ take_min h.0 a in
    (m, h.1 ∙ ap (λ (piece : List ℕ). send_known piece before) (sym same))

-- all of the first of two pieces, and a front of the second
pub second_front : (a b : List ℕ) (before mid after : Option ConnectionModel) → mid ≡ send_known a before
    → PutsFrontOf b mid after → PutsFrontOf (a ++ b) before after
second_front a b before mid after whole h = (
  length a + h.0,
  h.1 ∙ ap (send_known (take h.0 b)) whole ∙ sent_sent a (take h.0 b) before
      ∙ ap (λ (piece : List ℕ). send_known piece before) (sym (take-append-add a b h.0)),
)

-- a connection that stood stands after a put
pub stands_sent : (piece : List ℕ) (before after : Option ConnectionModel) → after ≡ send_known piece before
    → (w : ConnectionModel) → before ≡ Some w → (mid : ConnectionModel) × (after ≡ Some mid) × (mid.stands ≡ w.stands)
stands_sent piece before after put w is =
    (record w { sent = w.sent ++ piece }, put ∙ ap (send_known piece) is, refl)

-- A frame.

frame_is : (kind : FrameKind) (n : ℕ) (head body : List ℕ) → head ≡ u32_bytes n ++ code_of kind ∷ []
    → n ≡ length body + 1 → head ++ body ≡ frame_bytes kind body
frame_is kind n head body is size =
    ap (λ (bytes : List ℕ). bytes ++ body) is ∙ append_assoc (u32_bytes n) (code_of kind ∷ []) body
    ∙ ap (λ (k : ℕ). u32_bytes k ++ code_of kind ∷ body) size

-- the head and the body were put
pub put_whole : (kind : FrameKind) (n : ℕ) (head body : List ℕ) (result : Result (Unit {0}) PutFault)
    (before mid after : Option ConnectionModel) → head ≡ u32_bytes n ++ code_of kind ∷ [] → n ≡ length body + 1
    → mid ≡ send_known head before → OnOk result (after ≡ send_known body mid)
    → OnOk result (after ≡ send_known (frame_bytes kind body) before)
put_whole kind n head body (Ok done) before mid after is size first second =
    second ∙ ap (send_known body) first ∙ sent_sent head body before
    ∙ ap (λ (piece : List ℕ). send_known piece before) (frame_is kind n head body is size)
put_whole kind n head body (Err fault) before mid after is size first second = tt

-- the head was put, and the body not whole
pub put_body_front : (kind : FrameKind) (n : ℕ) (head body : List ℕ) (result : Result (Unit {0}) PutFault)
    (before mid after : Option ConnectionModel) → head ≡ u32_bytes n ++ code_of kind ∷ [] → n ≡ length body + 1
    → mid ≡ send_known head before → (IsErrOf result put_fault.Failed → PutsFrontOf body mid after)
    → (IsErrOf result put_fault.Memory → after ≡ mid) → IsErr result
    → PutsFrontOf (frame_bytes kind body) before after
put_body_front kind n head body (Ok done) before mid after is size first failed memory err = absurd (cc err)
put_body_front kind n head body (Err fault) before mid after is size first failed memory err =
    subst (λ (frame : List ℕ). PutsFrontOf frame before after) (frame_is kind n head body is size)
    (second_front head body before mid after first (fault_front fault body mid after failed memory))

-- the head was not put whole
pub put_head_front : (kind : FrameKind) (n : ℕ) (head body : List ℕ) (fault : PutFault)
    (before after : Option ConnectionModel) → head ≡ u32_bytes n ++ code_of kind ∷ [] → n ≡ length body + 1
    → (IsErrOf {T = Unit {0}} (Err fault) put_fault.Failed → PutsFrontOf head before after)
    → (IsErrOf {T = Unit {0}} (Err fault) put_fault.Memory → after ≡ before)
    → PutsFrontOf (frame_bytes kind body) before after
put_head_front kind n head body fault before after is size failed memory =
    subst (λ (frame : List ℕ). PutsFrontOf frame before after) (frame_is kind n head body is size)
    (first_front head body before after (fault_front fault head before after failed memory))

pub on_ok_err : (P : Type 0) (result : Result (Unit {0}) PutFault) → IsErr result → OnOk result P
on_ok_err P (Ok done) err = absurd (cc err)
on_ok_err P (Err fault) err = tt

-- four bytes, one by one
pub four : (bytes : List ℕ) (code : ℕ) → length bytes ≡ 4
    → get_or bytes 0 0 ∷ get_or bytes 1 0 ∷ get_or bytes 2 0 ∷ get_or bytes 3 0 ∷ code ∷ [] ≡ bytes ++ code ∷ []
four [] code all = absurd (omega arith)
four (a ∷ []) code all = absurd (omega arith)
four (a ∷ b ∷ []) code all = absurd (omega arith)
four (a ∷ b ∷ c ∷ []) code all = absurd (omega arith)
four (a ∷ b ∷ c ∷ d ∷ []) code all = refl
four (a ∷ b ∷ c ∷ d ∷ e ∷ bytes) code all = absurd (omega arith)

-- A frame on a connection that is known.

pub put_ok : (kind : FrameKind) (bytes items : List ℕ) (before : ConnectionModel)
    (wire later : Option ConnectionModel) → bytes ≡ items → wire ≡ Some before
    → later ≡ send_known (frame_bytes kind bytes) wire → later ≡ Some (send_on (frame_bytes kind items) before)
put_ok kind bytes items before wire later same is put =
    put ∙ ap (send_known (frame_bytes kind bytes)) is
    ∙ ap (λ (b : List ℕ). Some (send_on (frame_bytes kind b) before)) same

pub put_err : (kind : FrameKind) (bytes items : List ℕ) (before : ConnectionModel)
    (wire later : Option ConnectionModel) → bytes ≡ items → wire ≡ Some before
    → PutsFrontOf (frame_bytes kind bytes) wire later
    → (n : ℕ) × (later ≡ Some (send_on (take n (frame_bytes kind items)) before))
put_err kind bytes items before wire later same is put = (
  put.0,
  put.1 ∙ ap (send_known (take put.0 (frame_bytes kind bytes))) is
      ∙ ap (λ (b : List ℕ). Some (send_on (take put.0 (frame_bytes kind b)) before)) same,
)
