-- Proves that the code of copies and exchanges handles their elements one by one, as the semantics does.
use Rattle.std.proofs.Common.{◌≡◌, ◌⊎◌, inl, inr, ℕ, ◌+◌, ◌++◌, slice_get, List, [], ◌∷◌, length, map, Option, Some, refl, ap, sym, ◌∙◌, subst, arith}
use Rattle.ti_base.specs.declared.place.Place.{Place}
use Rattle.ti_base.specs.declared.point.Point.{Point}
use Rattle.ti_base.specs.declared.value.Id.{Id}
use Rattle.ti_base.specs.declared.value.Value.TheVariants as v
use Rattle.ti_base.specs.declared.fault.FaultKind.TheVariants.{NullRef}
use Rattle.ti_base.specs.declared.action.Action.TheVariants as act
use Rattle.ti_base.specs.declared.entry.Answer.{Answer}
use Rattle.ti_lang.specs.Program.Types.{ValueType}
use Rattle.ti_lang.specs.Program.Types as t
use Rattle.ti_lang.specs.Program.Classes.{ProgramView, NumberedMethod}
use Rattle.ti_lang.specs.Meaning.Held.{Held, Plain, Dm, plain_of, referent_of, dim_of}
use Rattle.ti_lang.specs.Meaning.Comp.{Request, Reference, ToBeDone, ValueOf, Gives, Comp, bind_result, gives, asked, needed, found_or, request, request_through}
use Rattle.ti_lang.specs.Meaning.Copies.{copied, taken, element_at}
use Rattle.ti_lang.specs.Typing.Kinds.{element_of}
use Rattle.ti_lang.specs.Typing.TextTypes.{static_element_type}
use Rattle.ti_lang.specs.Meaning.Processes.{Variable, ContItem, CopyAll, TakeAll}
use Rattle.ti_lang.specs.Meaning.Moves.{Move, Goes}
use Rattle.ti_lang.specs.Meaning.Scoping.{Env}
use Rattle.ti_code.specs.declared.instr.Instr.{Instr}
use Rattle.ti_code.specs.declared.instr.Instr.TheVariants as i
use Rattle.ti_code.specs.Effects.{LocalState, Who, effect, put, slot, oldest_slots, next_point}
use Rattle.ti_code.specs.Leading.{CodeAt, pc_after}
use Rattle.ti_lower.specs.StmtCode.{copied_code, taken_code}
use Rattle.ti_lower_expr.specs.Doing.{Implements}
use Rattle.ti_lower_expr.proofs.Lemmas.{front_stands, rest_stands, Alike, does_then, does_value, does_behind, does_one, as_many, newest}
use Rattle.ti_lower_expr.proofs.Lemmas.{older}
use Rattle.ti_lower.proofs.Cutting.{trimmed_all, trimmed_more}
use Rattle.ti_lower.proofs.Writing.{new_put, newest_put}
use Rattle.ti_lower.proofs.Receiving.{in_turn}
use Rattle.ti_lower.proofs.Standing as standing
use Rattle.ti_lower.proofs.Standing.{IsCursor, Elementwise}

abbrev spot_of : ℕ → List Held → List Held → LocalState
spot_of n slots stack = record { at = n; slots = slots; stack = stack }

spot_same : (a b : ℕ) (xs ys us vs : List Held) → a ≡ b → xs ≡ ys → us ≡ vs → spot_of a xs us ≡ spot_of b ys vs
spot_same a b xs ys us vs e f g = ap (λ n. spot_of n xs us) e ∙ (ap (λ hs. spot_of b hs us) f ∙ ap (λ hs. spot_of b ys hs) g)

-- ---- requests of things that are there

module _ (w : Who) (c : List Instr) where
  asked_alike : (q r : Request) → r.place ≡ q.place → r.action ≡ q.action → (rs : List Answer) → Alike w c (asked q rs) (asked r rs)
  asked_alike q r x y [] = (r, refl, x, y)
  asked_alike q r x y (a ∷ rs) = refl

  -- an action through a reference that names this thing is what an instruction does that needs it
  pub through_does : (P : Held → LocalState → Type 0) (s : LocalState) (p : Place) (h : Held) (id : Id) (q : Request) (f : Reference → Request)
      (go : Held → LocalState) (j : Instr) → slice_get c s.at ≡ Some j → referent_of h ≡ Some id
      → (f (record { thing = id; type = t.Void })).place ≡ q.place → (f (record { thing = id; type = t.Void })).action ≡ q.action
      → ((rs : List Answer) → effect w j s rs ≡ bind_result (needed p t.Void h rs) (λ r ms. bind_result (asked (f r) ms) (λ x. gives (go x))))
      → ((x : Held) → P x (go x)) → Implements w c s (asked q) P
  through_does P s p h id q f go j st is same_place same_action e g =
      let n : Comp Held = λ rs. bind_result (needed p t.Void h rs) (λ r. asked (f r)) in
      let there : (rs : List Answer) → asked (f (record { thing = id; type = t.Void })) rs ≡ n rs =
      λ rs. ap (λ o. bind_result (bind_result (found_or NullRef p o rs) (λ d. gives (record { thing = d; type = t.Void }))) (λ r. asked (f r))) (sym is) in
      does_one w c P s (asked q) n go j st (λ rs. subst (λ got. Alike w c (asked q rs) got) (there rs) (asked_alike q (f (record { thing = id; type = t.Void })) same_place same_action rs))
      (λ rs. e rs ∙ sym (in_turn (needed p t.Void h rs) (λ r. asked (f r)) (λ x. gives (go x)))) g

module _ (c : List Instr) (program : ProgramView) (method : NumberedMethod) (this_id : Option Id) (number procs : ℕ) where
  abbrev me : Who
  me = standing.who c program method this_id number procs

  abbrev Moved : List ContItem → List Variable → Move → LocalState → Type 0
  Moved = standing.Moved c program method this_id number procs

  module _ (p : Place) (read : ℕ → List Instr) (points : List Point) (left : List ContItem) (vs : List Variable) (s : LocalState) (k : Elementwise c program method this_id number procs p read points left vs s) where
    abbrev n : ℕ
    n = length k.names

    abbrev pub write_at : ℕ
    write_at = pc_after (k.start + 1 + 1 + 1) (read n)

    abbrev test : ℕ
    test = write_at + 1

    abbrev both : List Held
    both = k.target ∷ k.source ∷ k.base

    n_is : n ≡ length k.base
    n_is = as_many this_id k.names vs (standing.env c program method this_id number procs vs left).turns k.base k.holds

    abbrev tail : List Instr
    tail = i.PutElem p ∷ i.Next (n + 1 + 1) (test + 1 + 1) ∷ i.Jump (k.start + 1) ∷ i.Trim n ∷ i.Pop ∷ []

    pub tail_stands : CodeAt c write_at tail
    tail_stands = rest_stands c (k.start + 1 + 1 + 1) (read n) tail k.stands.1.1.1

    abbrev before : LocalState
    before = record { at = test; slots = k.cursor ++ both; stack = k.domain ∷ k.stack }

    -- the frame stands at the instruction that takes the next point, or jumps there
    stands_before : (P : Move → LocalState → Type 0) (m : Comp Move) → Implements me c before m P → Implements me c s m P
    stands_before P m d = by k.at
      where
        by : (s.at ≡ k.start) ⊎ (s.at ≡ pc_after (k.start + 1 + 1 + 1) (read (length k.names)) + 1) → Implements me c s m P
        by (inl e) =
            subst (λ z. Implements me c z m P) (sym (spot_same s.at k.start s.slots (k.cursor ++ both) s.stack (k.domain ∷ k.stack) e k.slots k.operands))
            (does_behind me c P (record { at = k.start; slots = k.cursor ++ both; stack = k.domain ∷ k.stack }) before m (i.Jump test) k.stands.0 (λ rs. refl) d)
        by (inr e) = subst (λ z. Implements me c z m P) (sym (spot_same s.at test s.slots (k.cursor ++ both) s.stack (k.domain ∷ k.stack) e k.slots k.operands)) d

    -- slots that wait are dropped
    trimmed_both : (cursor : List Held) → IsCursor cursor → oldest_slots n (cursor ++ both) ≡ k.base
    trimmed_both [] few =
        trimmed_more n k.target (k.source ∷ k.base) (omega (arith, n_is)) ∙ (trimmed_more n k.source k.base (omega (arith, n_is)) ∙ trimmed_all n k.base n_is)
    trimmed_both (h ∷ []) few = trimmed_more n h both (omega (arith, n_is)) ∙ trimmed_both [] tt
    trimmed_both (h ∷ g ∷ hs) few = elim few [ ]

    -- the slot of the point
    put_point : (x : Held) (cursor : List Held) → IsCursor cursor → put (n + 1 + 1) x (cursor ++ both) ≡ x ∷ both
    put_point x [] few = new_put (n + 1 + 1) x both (omega (arith, n_is))
    put_point x (h ∷ []) few = newest_put (n + 1 + 1) x h both (omega (arith, n_is))
    put_point x (h ∷ g ∷ hs) few = elim few [ ]

    -- no point is left
    pub none_left : points ≡ [] → Implements me c s (gives (Goes vs [])) (Moved left vs)
    none_left e =
        let at_end : LocalState = record { at = test + 1 + 1; slots = k.cursor ++ both; stack = k.domain ∷ k.stack } in
        let done : LocalState = record { at = test + 1 + 1 + 1 + 1; slots = k.base; stack = k.stack } in
        stands_before (Moved left vs) (gives (Goes vs []))
        (does_behind me c (Moved left vs) before at_end (gives (Goes vs [])) (i.Next (n + 1 + 1) (test + 1 + 1)) tail_stands.1.0
        (λ rs. ap (λ ps. next_point (n + 1 + 1) (test + 1 + 1) before ps rs) (k.points_are ∙ e))
        (does_behind me c (Moved left vs) at_end (record { at = test + 1 + 1 + 1; slots = k.base; stack = k.domain ∷ k.stack }) (gives (Goes vs [])) (i.Trim n) tail_stands.1.1.1.0
        (λ rs. ap (λ hs. Gives (record { at = test + 1 + 1 + 1; slots = hs; stack = k.domain ∷ k.stack }) rs) (trimmed_both k.cursor k.few))
        (does_behind me c (Moved left vs) (record { at = test + 1 + 1 + 1; slots = k.base; stack = k.domain ∷ k.stack }) done (gives (Goes vs [])) i.Pop tail_stands.1.1.1.1.0 (λ rs. refl)
        (does_value me c (Moved left vs) done (Goes vs []) (inl (k.labels, k.names, k.holds, k.after, k.bare))))))

    -- where the frame stands once a point was taken: the point and the grid that is written are on top
    abbrev pub walked : Point → List Point → LocalState
    walked q qs = record {
      at = k.start + 1 + 1 + 1;
      slots = Plain (v.Pt q) ∷ both;
      stack = Plain (v.Pt q) ∷ k.target ∷ Dm (dim_of k.domain) qs ∷ k.stack;
    }

    pub next_left : (q : Point) (qs : List Point) (m : Comp Move) → points ≡ q ∷ qs → Implements me c (walked q qs) m (Moved left vs) → Implements me c s m (Moved left vs)
    next_left q qs m e d =
        let pt = Plain (v.Pt q) in
        let slots = pt ∷ both in
        let rest = Dm (dim_of k.domain) qs ∷ k.stack in
        let back : LocalState = record { at = test + 1; slots = slots; stack = rest } in
        let again : LocalState = record { at = k.start + 1; slots = slots; stack = rest } in
        let grid : LocalState = record { at = k.start + 1 + 1; slots = slots; stack = k.target ∷ rest } in
        stands_before (Moved left vs) m
        (does_behind me c (Moved left vs) before back m (i.Next (n + 1 + 1) (test + 1 + 1)) tail_stands.1.0
        (λ rs. ap (λ ps. next_point (n + 1 + 1) (test + 1 + 1) before ps rs) (k.points_are ∙ e)
        ∙ ap (λ hs. Gives (record { at = test + 1; slots = hs; stack = rest }) rs) (put_point pt k.cursor k.few))
        (does_behind me c (Moved left vs) back again m (i.Jump (k.start + 1)) tail_stands.1.1.0 (λ rs. refl)
        (does_behind me c (Moved left vs) again grid m (i.Load (n + 1)) k.stands.1.0
        (λ rs. ap (λ x. Gives (record { at = k.start + 1 + 1; slots = slots; stack = x ∷ rest }) rs)
        (older (n + 1) pt both (omega (arith, n_is)) ∙ newest (n + 1) k.target (k.source ∷ k.base) (omega (arith, n_is))))
        (does_behind me c (Moved left vs) grid (walked q qs) m (i.Load (n + 1 + 1)) k.stands.1.1.0
        (λ rs. ap (λ x. Gives (record { at = k.start + 1 + 1 + 1; slots = slots; stack = x ∷ k.target ∷ rest }) rs) (newest (n + 1 + 1) pt both (omega (arith, n_is))))
        d))))

    -- behind the write the frame stands before the next point
    abbrev pub written : Point → List Point → LocalState
    written q qs = record { at = test; slots = Plain (v.Pt q) ∷ both; stack = Dm (dim_of k.domain) qs ∷ k.stack }

    abbrev pub goes_on : (q : Point) (qs : List Point) → Elementwise c program method this_id number procs p read qs left vs (written q qs)
    goes_on q qs = record {
      labels = k.labels;
      names = k.names;
      bare = k.bare;
      base = k.base;
      holds = k.holds;
      source = k.source;
      target = k.target;
      cursor = Plain (v.Pt q) ∷ [];
      few = tt;
      slots = refl;
      domain = Dm (dim_of k.domain) qs;
      stack = k.stack;
      operands = refl;
      points_are = refl;
      start = k.start;
      stands = k.stands;
      at = inr refl;
      after = k.after;
    }

    -- the value on top is written to the element of the point
    pub write_does : (q : Point) (qs : List Point) (x : Held) (r : Reference) (m : Comp Move) → referent_of k.target ≡ Some r.thing → Implements me c (written q qs) m (Moved left vs)
        → Implements me c (record { at = write_at; slots = Plain (v.Pt q) ∷ both; stack = x ∷ Plain (v.Pt q) ∷ k.target ∷ Dm (dim_of k.domain) qs ∷ k.stack })
        (λ rs. bind_result (asked (request_through r p (act.PutElem r.thing q (plain_of x)) ToBeDone) rs) (λ done. m)) (Moved left vs)
    write_does q qs x r m is d =
        let from : LocalState = record { at = write_at; slots = Plain (v.Pt q) ∷ both; stack = x ∷ Plain (v.Pt q) ∷ k.target ∷ Dm (dim_of k.domain) qs ∷ k.stack } in
        does_then me c (λ done z. z ≡ written q qs) (Moved left vs) from (asked (request_through r p (act.PutElem r.thing q (plain_of x)) ToBeDone)) (λ done. m)
        (through_does me c (λ done z. z ≡ written q qs) from p k.target r.thing (request_through r p (act.PutElem r.thing q (plain_of x)) ToBeDone)
        (λ r. request_through r p (act.PutElem r.thing q (plain_of x)) ToBeDone) (λ done. written q qs) (i.PutElem p) tail_stands.0 is refl refl (λ rs. refl) (λ done. refl))
        (λ done z e. subst (λ y. Implements me c y m (Moved left vs)) (sym e) d)

    -- what waits besides
    pub source_slot : (q : Point) → slot n (Plain (v.Pt q) ∷ both) ≡ k.source
    source_slot q = older n (Plain (v.Pt q)) both (omega (arith, n_is)) ∙ (older n k.target (k.source ∷ k.base) (omega (arith, n_is)) ∙ newest n k.source k.base n_is)

    pub point_slot : (q : Point) → slot (n + 1 + 1) (Plain (v.Pt q) ∷ both) ≡ Plain (v.Pt q)
    point_slot q = newest (n + 1 + 1) (Plain (v.Pt q)) both (omega (arith, n_is))

  -- ---- copies

  abbrev env : List Variable → List ContItem → Env
  env = standing.env c program method this_id number procs

  pub copied_does : (p : Place) (to from : Reference) (points : List Point) (left : List ContItem) (vs : List Variable) (s : LocalState)
      → standing.Walking c program method this_id number procs (CopyAll p to from points ∷ left) vs s → Implements me c s (copied (env vs left) p to from points) (Moved left vs)
  copied_does p to from [] left vs s w = none_left p (copied_code p) [] left vs s w.0 refl
  copied_does p to from (q ∷ qs) left vs s w =
      let k = w.0 in
      let n = length k.names in
      let pt = Plain (v.Pt q) in
      let slots = pt ∷ k.target ∷ k.source ∷ k.base in
      let rest = pt ∷ k.target ∷ Dm (dim_of k.domain) qs ∷ k.stack in
      let begun = walked p (copied_code p) (q ∷ qs) left vs s k q qs in
      let a = k.start + 1 + 1 + 1 in
      let loaded : LocalState = record { at = a + 1; slots = slots; stack = k.source ∷ rest } in
      let ready : LocalState = record { at = a + 1 + 1; slots = slots; stack = pt ∷ k.source ∷ rest } in
      let got = λ (h : Held). let z : LocalState = record { at = a + 1 + 1 + 1; slots = slots; stack = h ∷ rest } in z in
      let last : Comp Move = gives (Goes vs (CopyAll p to from qs ∷ [])) in
      let reads = request_through from p (act.GetElem from.thing q) (ValueOf (static_element_type from.type)) in
      let writes = λ (h : Held). request_through to p (act.PutElem to.thing q (plain_of h)) ToBeDone in
      let m : Comp Move = λ rs. bind_result (asked reads rs) (λ h ms. bind_result (asked (writes h) ms) (λ done. last)) in
      let here = front_stands c a (copied_code p n) (tail p (copied_code p) (q ∷ qs) left vs s k) k.stands.1.1.1 in
      next_left p (copied_code p) (q ∷ qs) left vs s k q qs m refl
      (does_behind me c (Moved left vs) begun loaded m (i.Load n) here.0
      (λ rs. ap (λ x. Gives (record { at = a + 1; slots = slots; stack = x ∷ rest }) rs) (source_slot p (copied_code p) (q ∷ qs) left vs s k q))
      (does_behind me c (Moved left vs) loaded ready m (i.Load (n + 1 + 1)) here.1.0
      (λ rs. ap (λ x. Gives (record { at = a + 1 + 1; slots = slots; stack = x ∷ k.source ∷ rest }) rs) (point_slot p (copied_code p) (q ∷ qs) left vs s k q))
      (does_then me c (λ h z. z ≡ got h) (Moved left vs) ready (asked reads) (λ h ms. bind_result (asked (writes h) ms) (λ done. last))
      (through_does me c (λ h z. z ≡ got h) ready p k.source from.thing reads (λ r. request_through r p (act.GetElem r.thing q) (ValueOf t.Void)) got (i.GetElem p) here.1.1.0 w.2 refl refl
      (λ rs. in_turn (needed p t.Void k.source rs) (λ r. asked (request_through r p (act.GetElem r.thing q) (ValueOf t.Void))) (λ h. gives (got h))) (λ h. refl))
      (λ h z e. subst (λ y. Implements me c y (λ ms. bind_result (asked (writes h) ms) (λ done. last)) (Moved left vs)) (sym e)
      (write_does p (copied_code p) (q ∷ qs) left vs s k q qs h to last w.1
      (does_value me c (Moved left vs) (written p (copied_code p) (q ∷ qs) left vs s k q qs) (Goes vs (CopyAll p to from qs ∷ []))
      (inr (goes_on p (copied_code p) (q ∷ qs) left vs s k q qs, w.1, w.2))))))))

  -- ---- exchanges

  pub taken_does : (p : Place) (grid : Reference) (senders : List ℕ) (left : List ContItem) (vs : List Variable) (s : LocalState)
      → standing.Walking c program method this_id number procs (TakeAll p grid senders ∷ left) vs s → Implements me c s (taken (env vs left) p grid senders) (Moved left vs)
  taken_does p grid [] left vs s w = none_left p (taken_code p) [] left vs s w.0 refl
  taken_does p grid (j ∷ js) left vs s w =
      let k = w.0 in
      let q = element_at j in
      let qs = map element_at js in
      let n = length k.names in
      let pt = Plain (v.Pt q) in
      let slots = pt ∷ k.target ∷ k.source ∷ k.base in
      let rest = pt ∷ k.target ∷ Dm (dim_of k.domain) qs ∷ k.stack in
      let begun = walked p (taken_code p) (q ∷ qs) left vs s k q qs in
      let a = k.start + 1 + 1 + 1 in
      let ready : LocalState = record { at = a + 1; slots = slots; stack = pt ∷ rest } in
      let got = λ (h : Held). let z : LocalState = record { at = a + 1 + 1; slots = slots; stack = h ∷ rest } in z in
      let last : Comp Move = gives (Goes vs (TakeAll p grid js ∷ [])) in
      let takes = request p (act.Take j) (ValueOf (element_of grid.type)) in
      let writes = λ (h : Held). request_through grid p (act.PutElem grid.thing q (plain_of h)) ToBeDone in
      let m : Comp Move = λ rs. bind_result (asked takes rs) (λ h ms. bind_result (asked (writes h) ms) (λ done. last)) in
      let here = front_stands c a (taken_code p n) (tail p (taken_code p) (q ∷ qs) left vs s k) k.stands.1.1.1 in
      next_left p (taken_code p) (q ∷ qs) left vs s k q qs m refl
      (does_behind me c (Moved left vs) begun ready m (i.Load (n + 1 + 1)) here.0
      (λ rs. ap (λ x. Gives (record { at = a + 1; slots = slots; stack = x ∷ rest }) rs) (point_slot p (taken_code p) (q ∷ qs) left vs s k q))
      (does_then me c (λ h z. z ≡ got h) (Moved left vs) ready (asked takes) (λ h ms. bind_result (asked (writes h) ms) (λ done. last))
      (does_one me c (λ h z. z ≡ got h) ready (asked takes) (asked (request p (act.Take j) ToBeDone)) got (i.Take p) here.1.0
      (asked_alike me c takes (request p (act.Take j) ToBeDone) refl refl) (λ rs. refl) (λ h. refl))
      (λ h z e. subst (λ y. Implements me c y (λ ms. bind_result (asked (writes h) ms) (λ done. last)) (Moved left vs)) (sym e)
      (write_does p (taken_code p) (q ∷ qs) left vs s k q qs h grid last w.1
      (does_value me c (Moved left vs) (written p (taken_code p) (q ∷ qs) left vs s k q qs) (Goes vs (TakeAll p grid js ∷ []))
      (inr (goes_on p (taken_code p) (q ∷ qs) left vs s k q qs, w.1)))))))
