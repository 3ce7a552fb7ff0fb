-- What a history without races implies for its writes.
use Rattle.std.proofs.Common.{◌≡◌, ◌⊎◌, inl, inr, ℕ, ◌==◌, Bool, true, false, not, ◌&&◌, ◌||◌, cond, filter, map, reverse, length, Option, Some, None, List, [], ◌∷◌, ◌++◌, refl, ap, ap₂, sym, ◌∙◌, subst, eq-eqb, eqb-true}
use Rattle.std.specs.List.{list_any}
use Rattle.std.specs.Option.{option_map}
use Rattle.std.proofs.lemmas.List.{reverse-reverse}
use Rattle.ti_base.specs.declared.value.Value.{Value}
use Rattle.ti_base.specs.declared.action.Action.{Action}
use Rattle.ti_base.specs.declared.action.Action.TheVariants as act
use Rattle.ti_base.specs.declared.entry.Entry.{Entry}
use Rattle.ti_base.specs.Cells.{Cell, Field, Element, same_cell, Grid, cell_of}
use Rattle.ti_base.proofs.Lemmas.{same_self}
use Rattle.ti_lang.specs.Program.Classes.{ProgramView}
use Rattle.ti_lang.specs.Meaning.Histories.{History, history_of, departures}
use Rattle.ti_lang.specs.Meaning.HeapOf.{grid_of_id, written_by, written_to}
use Rattle.ti_align.proofs.Lemmas.{true_false, or_false, or_right, none_some}
use Rattle.ti_align.proofs.Lemmas as heaping
use Rattle.ti_lang.specs.Meaning.Races.{is_put, cell_used, Access, access_of, prepend_option, accesses, race, races_among, races}
use Rattle.ti_race.proofs.Lists.{Member, Mark}
use Rattle.ti_race.proofs.Courses.{Course, none, more}
use Rattle.ti_race.proofs.Own.{GoesOn}
use Rattle.ti_race.proofs.Splits.{on_earlier}
use Rattle.ti_race.proofs.Writes.{marks, written, written_same, with_cases}

-- no two of these accesses stand in a race
abbrev pub NoRace : History → Type 0
NoRace h = (a b : Access) → Member a (accesses h) → Member b (accesses h) → race a b ≡ false

-- ---- from the list of races

any_false : (test : Access → Bool) (xs : List Access) → list_any test xs ≡ false → (x : Access) → Member x xs → test x ≡ false
any_false test [] h x m = elim m [ ]
any_false test (y ∷ ys) h x (inl z) = ap test z ∙ (or_false (test y) _ h).0
any_false test (y ∷ ys) h x (inr z) = any_false test ys (or_false (test y) _ h).1 x z

none_more : (x : Access) (xs : List Access) → x ∷ xs ≡ [] → ⊥
none_more x xs e = cc

no_number : (x : ℕ) (xs : List ℕ) → x ∷ xs ≡ [] → ⊥
no_number x xs e = cc

unmapped : (f : Access → ℕ) (xs : List Access) → map f xs ≡ [] → xs ≡ []
unmapped f [] e = refl
unmapped f (x ∷ xs) e = absurd (no_number (f x) (map f xs) e)

none_pass : (test : Access → Bool) (xs : List Access) → filter test xs ≡ [] → (x : Access) → Member x xs → test x ≡ false
none_pass test [] h x m = elim m [ ]
none_pass test (y ∷ ys) h x m = by (test y) refl h m (λ k z. none_pass test ys k x z)
  where
    by : (b : Bool) → test y ≡ b → cond b (y ∷ filter test ys) (filter test ys) ≡ [] → (x ≡ y) ⊎ Member x ys → (filter test ys ≡ [] → Member x ys → test x ≡ false) → test x ≡ false
    by true k h m ih = absurd (none_more y _ h)
    by false k h (inl z) ih = ap test z ∙ k
    by false k h (inr z) ih = ih h z

pub no_race : (es : List Entry) → races es ≡ [] → NoRace (history_of es)
no_race es h a b x y =
    let acc = accesses (history_of es) in
    let numbers = map (λ (a : Access). a.number) (filter (races_among acc) acc) in
    let unread : numbers ≡ [] = sym (reverse-reverse numbers) ∙ ap reverse h in
    any_false (race a) acc (none_pass (races_among acc) acc (unmapped (λ (a : Access). a.number) (filter (races_among acc) acc) unread) a x) b y

-- ---- writes are accesses

cell_self : (c : Cell) → same_cell c c ≡ true
cell_self (Field a f) = ap₂ (λ x y. x && y) (heaping.same_self a) (eq-eqb f f refl)
cell_self (Element a q) = ap₂ (λ x y. x && y) (heaping.same_self a) (same_self q)

written_where : (c d : Cell) (value x : Value) → written_to c (Some (d, value)) ≡ Some x → c ≡ d
written_where c d value x z = by (same_cell c d) refl z
  where
    by : (b : Bool) → same_cell c d ≡ b → cond b (Some value) None ≡ Some x → c ≡ d
    by true k z = heaping.same_cells c d k
    by false k z = absurd (none_some x z)

pub used_of : (a : Action) (h : History) (c : Cell) (x : Value) → written_to c (written_by a h) ≡ Some x → (cell_used a h ≡ Some c) × (is_put a ≡ true)
used_of (act.PutField o f value) h c x z = (ap Some (sym (written_where c (Field o f) value x z)), refl)
used_of (act.PutElem grid at value) h c x z = (by (grid_of_id grid h) z, refl)
  where
    by : (o : Option Grid) → written_to c (option_map (λ (g : Grid). (cell_of g at, value)) o) ≡ Some x → option_map (λ (g : Grid). cell_of g at) o ≡ Some c
    by None z = absurd (none_some x z)
    by (Some g) z = ap Some (sym (written_where c (cell_of g at) value x z))
used_of _ h c x z = absurd (none_some x z)

member_added : (o : Option Access) (xs : List Access) (a : Access) → Member a xs → Member a (prepend_option o xs)
member_added None xs a z = z
member_added (Some x) xs a z = inr z

member_new : (o : Option Access) (xs : List Access) (a : Access) → o ≡ Some a → Member a (prepend_option o xs)
member_new o xs a z = subst (λ p. Member a (prepend_option p xs)) (sym z) (inl refl)

-- the access of an entry that stands in the history
pub access_there : (before : List Entry) (e : Entry) (h : History) (a : Access) → access_of e h ≡ Some a → Member a (accesses (before ++ e ∷ h))
access_there [] e h a z = member_new (access_of e h) (accesses h) a z
access_there (x ∷ before) e h a z = member_added (access_of x (before ++ e ∷ h)) _ a (access_there before e h a z)

-- the access of an entry that uses a cell
abbrev pub access_to : Entry → History → Cell → Access
access_to e h c = record { number = length h; proc = e.proc; phase = departures e.proc h; cell = c; writes = is_put e.act }

pub access_is : (e : Entry) (h : History) (c : Cell) → cell_used e.act h ≡ Some c → access_of e h ≡ Some (access_to e h c)
access_is e h c z = ap (option_map (λ (c : Cell). record { number = length h; proc = e.proc; phase = departures e.proc h; cell = c; writes = is_put e.act })) z

-- two accesses on one cell in one phase, of which one writes, are of one process
pub one_owner : (a b : Access) (c : Cell) → race a b ≡ false → a.phase ≡ b.phase → a.cell ≡ c → b.cell ≡ c → (a.writes || b.writes) ≡ true → a.proc ≡ b.proc
one_owner a b c r p x y w = by (a.proc == b.proc) refl
  where
    all : (d : Bool) → (a.proc == b.proc) ≡ d → race a b ≡ (not d && true && true && true)
    all d k =
        ap₂ (λ u v. u && v)
        (ap₂ (λ u v. u && v) (ap₂ (λ u v. u && v) (ap not k) (eq-eqb a.phase b.phase p)) (ap₂ same_cell x y ∙ cell_self c)) w

    by : (d : Bool) → (a.proc == b.proc) ≡ d → a.proc ≡ b.proc
    by true k = eqb-true a.proc b.proc k
    by false k = absurd (true_false (sym (all false k) ∙ r))

module _ (p : ProgramView) (n : ℕ) (kept : History) (whole : Course p n kept) (c : Cell) where
  -- what a mark says is said by an access
  pub record Wrote (h : History) (m : Mark) : Type 0 where
    pub access : Access
    pub there : Member access (accesses h)
    pub owner : access.proc ≡ m.owner
    pub phase : access.phase ≡ m.phase
    pub cell : access.cell ≡ c
    pub writes : access.writes ≡ true

  pub wrote : (h : History) → Course p n h → ((j : ℕ) → GoesOn j h kept) → (m : Mark) → Member m (marks p n kept whole c h) → Wrote h m
  wrote h none on m z = elim z [ ]
  wrote all (more {h = h} {e = e} course mv) on m z =
      by (with_cases (written p n kept whole c e) e.proc (departures e.proc h) (marks p n kept whole c h) m z) (λ y. wrote h course (λ j. on_earlier j e h kept (on j)) m y)
    where
      by : Member m (marks p n kept whole c h) ⊎ ((value : Value) × (written p n kept whole c e ≡ Some value) × (m.owner ≡ e.proc)
          × (m.phase ≡ departures e.proc h)) → (Member m (marks p n kept whole c h) → Wrote h m) → Wrote (e ∷ h) m
      by (inl y) ih =
          let w = ih y in
          record { access = w.access; there = member_added (access_of e h) (accesses h) w.access w.there; owner = w.owner; phase = w.phase; cell = w.cell; writes = w.writes }
      by (inr y) ih =
          let same = written_same p n kept whole c h course (λ j. on_earlier j e h kept (on j)) e.proc e.act e.answer mv.said in
          let u = used_of e.act h c y.0 (ap (written_to c) same ∙ y.1) in
          record {
            access = access_to e h c;
            there = member_new (access_of e h) (accesses h) _ (access_is e h c u.0);
            owner = sym y.2;
            phase = sym y.3;
            cell = refl;
            writes = u.1;
          }

  self_on : (j : ℕ) → GoesOn j kept kept
  self_on j = ([], refl)

  module _ (free : NoRace kept) where
    pub lone : (x y : Mark) → Member x (marks p n kept whole c kept) → Member y (marks p n kept whole c kept) → x.phase ≡ y.phase → x.owner ≡ y.owner
    lone x y a b z =
        let u = wrote kept whole self_on x a in
        let w = wrote kept whole self_on y b in
        sym u.owner ∙ one_owner u.access w.access c (free u.access w.access u.there w.there) (u.phase ∙ z ∙ sym w.phase) u.cell w.cell (or_right _ _ w.writes) ∙ w.owner

    -- where a process uses the cell, no other one writes it in the same phase
    pub alone : (before : List Entry) (e : Entry) (k : History) → kept ≡ before ++ e ∷ k → cell_used e.act k ≡ Some c → (m : Mark)
        → Member m (marks p n kept whole c kept) → m.phase ≡ departures e.proc k → m.owner ≡ e.proc
    alone before e k z u m a y =
        let w = wrote kept whole self_on m a in
        let own = access_to e k c in
        let there : Member own (accesses kept) = subst (λ h. Member own (accesses h)) (sym z) (access_there before e k own (access_is e k c u)) in
        sym w.owner ∙ sym (one_owner own w.access c (free own w.access there w.there) (sym (w.phase ∙ y)) refl w.cell (or_right _ _ w.writes))
