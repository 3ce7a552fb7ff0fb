-- An expression that has a type is proved to have no type error except Y7.
use Rattle.std.proofs.Common.{◌≡◌, Bool, true, false, List, [], ◌∷◌, ◌++◌, length, map, All, flat_map, is_some, slice_get, refl}
use Rattle.std.proofs.lemmas.Grind.{flat_map-append}
use Rattle.std.proofs.lemmas.List.Elements.{All-nil, All-cons, All-append, All-same}
use Rattle.ti_base.specs.declared.place.Place.{Place}
use Rattle.ti_syntax.specs.declared.tree.types.Qualifier.{Qualifier}
use Rattle.ti_syntax.specs.Trees.Types.{GridTree}
use Rattle.ti_lang.specs.Program.Types.{ValueType, Pt, NumberedType}
use Rattle.ti_lang.specs.Program.Expressions.{NumberedExp, NumberedExps, NumberedRange, NumberedRanges, place_of_numbered}
use Rattle.ti_lang.specs.Program.Expressions as x
use Rattle.ti_lang.specs.Program.Classes.{ProgramView}
use Rattle.ti_lang.specs.Program.Scope.{ScopeContents}
use Rattle.ti_lang.specs.Typing.Alike.{erase_dims}
use Rattle.ti_lang.specs.Typing.Kinds.{where_true}
use Rattle.ti_lang.specs.Typing.Fits.{casts}
use Rattle.ti_lang.specs.Typing.Operators.{unary_type, binary_type}
use Rattle.ti_lang.specs.Typing.Expressions.{one, all_ints, point_literal, rect_literal, index_type, select_type, type_result, operands, bound_types, bounds, range_count, expr_type, operand_type}
use Rattle.ti_rules.specs.declared.rule.Rule.TheVariants.{Y7}
use Rattle.ti_rules.specs.declared.refusal.Refusal.{Refusal}
use Rattle.ti_rules.specs.Refusals.{refused_if}
use Rattle.ti_rules.specs.Known.{IsThere}
use Rattle.ti_rules.specs.Parts.{parts, parts_of_all, parts_of_range, parts_of_ranges}
use Rattle.ti_rules.specs.Broken.Refused.{judged, both_judged, operand_refusal}
use Rattle.ti_rules.specs.Broken.Misplaced.{misplaced, all_misplaced, bound_misplaced, bounds_misplaced}
use Rattle.ti_rules.specs.Broken.Words.{repeated_qualifiers, base_word_refusals, grid_word_refusals, grid_refusals, type_word_refusals}
use Rattle.ti_rules.specs.Broken.Calls.{call_refusals, member_refusals}
use Rattle.ti_rules.specs.Broken.Expressions.{places_of, other_indices, refusals_at, exp_refusals}
use Rattle.ti_types.proofs.Taken.{none_both, where_taken, is_taken, first_there, judged_none, left_there, right_there, both_none, front_there, back_there, single_there, type_there, is_placed, arguments_there, called_none, receiver_there, behind_there, member_none}

-- ---- words

abbrev pub IsOfWords : Refusal → Type 0
IsOfWords r = r.rule ≡ Y7

abbrev pub OfWords : List Refusal → Type 0
OfWords l = All IsOfWords l

none_words : (l : List Refusal) → l ≡ [] → OfWords l
none_words l e = All-same IsOfWords l [] e (All-nil IsOfWords)

both_words : (xs ys : List Refusal) → OfWords xs → OfWords ys → OfWords (xs ++ ys)
both_words xs ys h k = All-append IsOfWords xs ys h k

word_refused : (b : Bool) (at : Place) → OfWords (refused_if b Y7 at)
word_refused true at = All-cons IsOfWords (record { rule = Y7; place = at }) [] refl (All-nil IsOfWords)
word_refused false at = All-nil IsOfWords

each_words : {A : Type 0} (f : A → List Refusal) → ((a : A) → OfWords (f a)) → (xs : List A) → OfWords (flat_map f xs)
each_words f each [] = All-nil IsOfWords
each_words f each (a ∷ xs) = both_words (f a) (flat_map f xs) (each a) (each_words f each xs)

repeated_words : (before qs : List Qualifier) → OfWords (repeated_qualifiers before qs)
repeated_words before [] = All-nil IsOfWords
repeated_words before (q ∷ rest) = both_words _ (repeated_qualifiers (q ∷ before) rest) (word_refused _ q.place) (repeated_words (q ∷ before) rest)

grid_words : (g : GridTree) → OfWords (grid_refusals g)
grid_words g =
    both_words (repeated_qualifiers [] g.qualifiers) (flat_map grid_word_refusals g.qualifiers) (repeated_words [] g.qualifiers)
    (each_words grid_word_refusals (λ q. word_refused _ q.place) g.qualifiers)

type_words : (may_be_single : Bool) (t : NumberedType) → OfWords (type_word_refusals may_be_single t)
type_words may_be_single t =
    let base = base_word_refusals may_be_single t.type in
    both_words (repeated_qualifiers [] t.qualifiers ++ flat_map base t.qualifiers) (flat_map grid_refusals t.grids)
    (both_words (repeated_qualifiers [] t.qualifiers) (flat_map base t.qualifiers) (repeated_words [] t.qualifiers) (each_words base (λ q. word_refused _ q.place) t.qualifiers))
    (each_words grid_refusals grid_words t.grids)

-- ---- expressions

module _ (p : ProgramView) (s : ScopeContents) where
  -- what is broken in all of these expressions is the rule on words
  abbrev AreOfWords : List NumberedExp → Type 0
  AreOfWords es = OfWords (flat_map (refusals_at p s) es)

  and_words : (es ds : List NumberedExp) → AreOfWords es → AreOfWords ds → AreOfWords (es ++ ds)
  and_words es ds h k =
      All-same IsOfWords (flat_map (refusals_at p s) (es ++ ds)) (flat_map (refusals_at p s) es ++ flat_map (refusals_at p s) ds) (flat_map-append (refusals_at p s) es ds)
      (both_words (flat_map (refusals_at p s) es) (flat_map (refusals_at p s) ds) h k)

  -- an expression behind its parts
  node_words : (es : List NumberedExp) (e : NumberedExp) → AreOfWords es → OfWords (refusals_at p s e) → AreOfWords (es ++ e ∷ [])
  node_words es e h own = and_words es (e ∷ []) h (both_words (refusals_at p s e) [] own (All-nil IsOfWords))

  -- the same, where nothing is wrong with the expression itself
  node_none : (es : List NumberedExp) (e : NumberedExp) → AreOfWords es → refusals_at p s e ≡ [] → AreOfWords (es ++ e ∷ [])
  node_none es e h own = node_words es e h (none_words (refusals_at p s e) own)

  placed : (a : NumberedExp) → IsThere (operand_type p s a) → misplaced p s a ≡ []
  placed a there = is_placed (type_result p s a) (place_of_numbered a) there

  all_placed : (xs : NumberedExps) → IsThere (operands p s xs) → all_misplaced p s xs ≡ []
  all_placed x.NoExp there = refl
  all_placed (x.MoreExp a rest) there =
      none_both (misplaced p s a) (all_misplaced p s rest) (placed a (single_there (operand_type p s a) (front_there (one (operand_type p s a)) (operands p s rest) there)))
      (all_placed rest (back_there (one (operand_type p s a)) (operands p s rest) there))

  -- a bound or a step of a range of two or three
  low_there : (low high : NumberedExp) → IsThere (bound_types p s (x.Plain low high)) → IsThere (operand_type p s low)
  low_there low high there = single_there (operand_type p s low) (front_there (one (operand_type p s low)) (one (operand_type p s high)) there)

  high_there : (low high : NumberedExp) → IsThere (bound_types p s (x.Plain low high)) → IsThere (operand_type p s high)
  high_there low high there = single_there (operand_type p s high) (back_there (one (operand_type p s low)) (one (operand_type p s high)) there)

  plain_there : (low high step : NumberedExp) → IsThere (bound_types p s (x.Stepped low high step)) → IsThere (bound_types p s (x.Plain low high))
  plain_there low high step there = front_there (bound_types p s (x.Plain low high)) (one (operand_type p s step)) there

  step_there : (low high step : NumberedExp) → IsThere (bound_types p s (x.Stepped low high step)) → IsThere (operand_type p s step)
  step_there low high step there = single_there (operand_type p s step) (back_there (bound_types p s (x.Plain low high)) (one (operand_type p s step)) there)

  bound_placed : (r : NumberedRange) → IsThere (bound_types p s r) → bound_misplaced p s r ≡ []
  bound_placed (x.Plain low high) there = none_both (misplaced p s low) (misplaced p s high) (placed low (low_there low high there)) (placed high (high_there low high there))
  bound_placed (x.Stepped low high step) there =
      let plain = plain_there low high step there in
      none_both (misplaced p s low ++ misplaced p s high) (misplaced p s step)
      (none_both (misplaced p s low) (misplaced p s high) (placed low (low_there low high plain)) (placed high (high_there low high plain)))
      (placed step (step_there low high step there))

  bounds_placed : (rs : NumberedRanges) → IsThere (bounds p s rs) → bounds_misplaced p s rs ≡ []
  bounds_placed x.NoRange there = refl
  bounds_placed (x.MoreRange r rest) there =
      none_both (bound_misplaced p s r) (bounds_misplaced p s rest) (bound_placed r (front_there (bound_types p s r) (bounds p s rest) there))
      (bounds_placed rest (back_there (bound_types p s r) (bounds p s rest) there))

  mutual
    pub words_alone : (e : NumberedExp) → IsThere (expr_type p s e) → OfWords (exp_refusals p s e)
    words_alone (x.Int at n) there = All-nil IsOfWords
    words_alone (x.Long at n) there = All-nil IsOfWords
    words_alone (x.Truth at b) there = All-nil IsOfWords
    words_alone (x.Null at) there = All-nil IsOfWords
    words_alone (x.This at) there = All-nil IsOfWords
    words_alone (x.Variable at v) there = All-nil IsOfWords
    words_alone (x.OwnField at field) there = All-nil IsOfWords
    words_alone (x.Call at method args) there =
        let inner = arguments_there (slice_get p.methods method) (operands p s args) there in
        node_none (parts_of_all args) (x.Call at method args) (words_of_all args inner)
        (none_both (all_misplaced p s args) (judged (operands p s args) (λ ts. call_refusals at (places_of args) (slice_get p.methods method) ts)) (all_placed args inner)
        (called_none at (places_of args) (slice_get p.methods method) (operands p s args) there))
    words_alone (x.OwnCall at method args) there =
        let inner = arguments_there (slice_get p.methods method) (operands p s args) there in
        node_none (parts_of_all args) (x.OwnCall at method args) (words_of_all args inner)
        (none_both (all_misplaced p s args) (judged (operands p s args) (λ ts. call_refusals at (places_of args) (slice_get p.methods method) ts)) (all_placed args inner)
        (called_none at (places_of args) (slice_get p.methods method) (operands p s args) there))
    words_alone (x.ThisProc at) there = All-nil IsOfWords
    words_alone (x.NumProcs at) there = All-nil IsOfWords
    words_alone (x.Point at xs) there =
        let inner = first_there (operands p s xs) point_literal there in
        let rule = λ (ts : List ValueType). operand_refusal at (all_ints ts) false in
        node_none (parts_of_all xs) (x.Point at xs) (words_of_all xs inner)
        (none_both (all_misplaced p s xs) (judged (operands p s xs) rule) (all_placed xs inner)
        (judged_none (operands p s xs) rule point_literal there (λ ts given. where_taken at (all_ints ts) false (Pt (length ts)) given)))
    words_alone (x.Rect at ranges) there =
        let inner = first_there (bounds p s ranges) (rect_literal (range_count ranges)) there in
        let rule = λ (ts : List ValueType). operand_refusal at (is_some (rect_literal (range_count ranges) ts)) (is_some (rect_literal (range_count ranges) (map erase_dims ts))) in
        node_none (parts_of_ranges ranges) (x.Rect at ranges) (words_of_ranges ranges inner)
        (none_both (bounds_misplaced p s ranges) (judged (bounds p s ranges) rule) (bounds_placed ranges inner)
        (judged_none (bounds p s ranges) rule (rect_literal (range_count ranges)) there
        (λ ts given. is_taken at (rect_literal (range_count ranges) ts) (is_some (rect_literal (range_count ranges) (map erase_dims ts))) given)))
    words_alone (x.Unary at op a) there =
        let inner = first_there (operand_type p s a) (unary_type op) there in
        let rule = λ (t : ValueType). operand_refusal at (is_some (unary_type op t)) false in
        node_none (parts a) (x.Unary at op a) (words_alone a (type_there (type_result p s a) inner))
        (none_both (misplaced p s a) (judged (operand_type p s a) rule) (placed a inner)
        (judged_none (operand_type p s a) rule (unary_type op) there (λ t given. is_taken at (unary_type op t) false given)))
    words_alone (x.Binary at op a b) there =
        let left = left_there (operand_type p s a) (operand_type p s b) (binary_type op) there in
        let right = right_there (operand_type p s a) (operand_type p s b) (binary_type op) there in
        let rule = λ (t : ValueType) (u : ValueType). operand_refusal at (is_some (binary_type op t u)) (is_some (binary_type op (erase_dims t) (erase_dims u))) in
        node_none (parts a ++ parts b) (x.Binary at op a b) (and_words (parts a) (parts b) (words_alone a (type_there (type_result p s a) left)) (words_alone b (type_there (type_result p s b) right)))
        (none_both (misplaced p s a ++ misplaced p s b) (both_judged (operand_type p s a) (operand_type p s b) rule) (none_both (misplaced p s a) (misplaced p s b) (placed a left) (placed b right))
        (both_none (operand_type p s a) (operand_type p s b) rule (binary_type op) there
        (λ t u given. is_taken at (binary_type op t u) (is_some (binary_type op (erase_dims t) (erase_dims u))) given)))
    -- the words of the type in a cast may be wrong
    words_alone (x.Cast at to a) there =
        let inner = first_there (operand_type p s a) (λ t. where_true (casts to.type t) to.type) there in
        let rule = λ (t : ValueType). operand_refusal at (casts to.type t) (casts (erase_dims to.type) (erase_dims t)) in
        node_words (parts a) (x.Cast at to a) (words_alone a (type_there (type_result p s a) inner))
        (both_words (type_word_refusals false to ++ misplaced p s a) (judged (operand_type p s a) rule)
        (both_words (type_word_refusals false to) (misplaced p s a) (type_words false to) (none_words (misplaced p s a) (placed a inner)))
        (none_words (judged (operand_type p s a) rule)
        (judged_none (operand_type p s a) rule (λ t. where_true (casts to.type t) to.type) there
        (λ t given. where_taken at (casts to.type t) (casts (erase_dims to.type) (erase_dims t)) to.type given))))
    words_alone (x.Select at a name) there =
        let inner = first_there (operand_type p s a) (λ t. select_type p t name) there in
        let rule = λ (t : ValueType). operand_refusal at (is_some (select_type p t name)) false in
        node_none (parts a) (x.Select at a name) (words_alone a (type_there (type_result p s a) inner))
        (none_both (misplaced p s a) (judged (operand_type p s a) rule) (placed a inner)
        (judged_none (operand_type p s a) rule (λ t. select_type p t name) there (λ t given. is_taken at (select_type p t name) false given)))
    words_alone (x.Member at a name args) there =
        let receiver = receiver_there p name (operand_type p s a) (operands p s args) there in
        let inner = behind_there p name (operand_type p s a) (operands p s args) there in
        node_none (parts a ++ parts_of_all args) (x.Member at a name args) (and_words (parts a) (parts_of_all args) (words_alone a (type_there (type_result p s a) receiver)) (words_of_all args inner))
        (none_both (misplaced p s a ++ all_misplaced p s args) (both_judged (operand_type p s a) (operands p s args) (λ t ts. member_refusals p at (places_of args) name t ts))
        (none_both (misplaced p s a) (all_misplaced p s args) (placed a receiver) (all_placed args inner))
        (member_none p at (places_of args) name (operand_type p s a) (operands p s args) there))
    words_alone (x.Index at a xs) there =
        let receiver = left_there (operand_type p s a) (operands p s xs) index_type there in
        let inner = right_there (operand_type p s a) (operands p s xs) index_type there in
        let rule = λ (t : ValueType) (ts : List ValueType). operand_refusal at (is_some (index_type t ts)) (other_indices t ts) in
        node_none (parts a ++ parts_of_all xs) (x.Index at a xs) (and_words (parts a) (parts_of_all xs) (words_alone a (type_there (type_result p s a) receiver)) (words_of_all xs inner))
        (none_both (misplaced p s a ++ all_misplaced p s xs) (both_judged (operand_type p s a) (operands p s xs) rule)
        (none_both (misplaced p s a) (all_misplaced p s xs) (placed a receiver) (all_placed xs inner))
        (both_none (operand_type p s a) (operands p s xs) rule index_type there (λ t ts given. is_taken at (index_type t ts) (other_indices t ts) given)))

    words_of_all : (xs : NumberedExps) → IsThere (operands p s xs) → AreOfWords (parts_of_all xs)
    words_of_all x.NoExp there = All-nil IsOfWords
    words_of_all (x.MoreExp a rest) there =
        and_words (parts a) (parts_of_all rest)
        (words_alone a (type_there (type_result p s a) (single_there (operand_type p s a) (front_there (one (operand_type p s a)) (operands p s rest) there))))
        (words_of_all rest (back_there (one (operand_type p s a)) (operands p s rest) there))

    words_of_range : (r : NumberedRange) → IsThere (bound_types p s r) → AreOfWords (parts_of_range r)
    words_of_range (x.Plain low high) there =
        and_words (parts low) (parts high) (words_alone low (type_there (type_result p s low) (low_there low high there))) (words_alone high (type_there (type_result p s high) (high_there low high there)))
    words_of_range (x.Stepped low high step) there =
        let plain = plain_there low high step there in
        and_words (parts low ++ parts high) (parts step)
        (and_words (parts low) (parts high) (words_alone low (type_there (type_result p s low) (low_there low high plain))) (words_alone high (type_there (type_result p s high) (high_there low high plain))))
        (words_alone step (type_there (type_result p s step) (step_there low high step there)))

    words_of_ranges : (rs : NumberedRanges) → IsThere (bounds p s rs) → AreOfWords (parts_of_ranges rs)
    words_of_ranges x.NoRange there = All-nil IsOfWords
    words_of_ranges (x.MoreRange r rest) there =
        and_words (parts_of_range r) (parts_of_ranges rest) (words_of_range r (front_there (bound_types p s r) (bounds p s rest) there))
        (words_of_ranges rest (back_there (bound_types p s r) (bounds p s rest) there))
