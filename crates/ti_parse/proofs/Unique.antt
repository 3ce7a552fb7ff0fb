-- A token list is proved to have at most one syntax error.
use Rattle.std.proofs.Common.{◌≡◌, inl, inr, List, [], ◌∷◌, ◌++◌, Option, Some, refl, sym, ap, ◌∙◌, subst, append_assoc}
use Rattle.ti_base.specs.declared.place.Place.{Place}
use Rattle.ti_syntax.specs.declared.token.Token.{Token}
use Rattle.ti_syntax.specs.Trees.Classes.{TextTree}
use Rattle.ti_syntax.specs.Spelling.{Spells, BeginsText, IsShallow, Misfit, ShowsMisfit, unexpected, too_deep, IsGrammarRefusal, fits, refused}
use Rattle.ti_parse_expr.proofs.Lemmas.{Apart, apart}

-- what begins a text has fronts that begin it too
front_begins : (f : List Token) (t : Token) (v more : List Token) (tree : TextTree) (list : List Token) → list ≡ f ++ t ∷ v → Spells (list ++ more) tree → BeginsText (f ++ t ∷ [])
front_begins f t v more tree list is s =
    let e : (f ++ t ∷ []) ++ (v ++ more) ≡ list ++ more = append_assoc f (t ∷ []) (v ++ more) ∙ sym (append_assoc f (t ∷ v) more) ∙ ap (λ z. z ++ more) (sym is) in
    (v ++ more, tree, record { front = s.front; last = s.last; is = e ∙ s.is; ends = s.ends; classes = s.classes })

text_begins : (f : List Token) (t : Token) (v : List Token) (tree : TextTree) (list : List Token) → list ≡ f ++ t ∷ v → Spells list tree → BeginsText (f ++ t ∷ [])
text_begins f t v tree list is s =
    let e : (f ++ t ∷ []) ++ v ≡ list = append_assoc f (t ∷ []) v ∙ sym is in
    (v, tree, record { front = s.front; last = s.last; is = e ∙ s.is; ends = s.ends; classes = s.classes })

-- the front before a misfit begins a text
misfit_begins : {m : Misfit} {f : List Token} {t : Token} → ShowsMisfit m f t → BeginsText f
misfit_begins (unexpected b never shallow) = b
misfit_begins (too_deep {front = f} {t = t} b deep shallow) =
    let s = b.2 in
    let e : f ++ t ∷ b.0 ≡ (f ++ t ∷ []) ++ b.0 = sym (append_assoc f (t ∷ []) b.0) in
    (t ∷ b.0, b.1, record { front = s.front; last = s.last; is = e ∙ s.is; ends = s.ends; classes = s.classes })

misfit_shallow : {m : Misfit} {f : List Token} {t : Token} → ShowsMisfit m f t → IsShallow f
misfit_shallow (unexpected b never shallow) = shallow
misfit_shallow (too_deep b deep shallow) = shallow

-- a token that shows a misfit stands in no list that fits
none_fits : {m : Misfit} {f : List Token} {t : Token} (list v : List Token) (tree : TextTree) → ShowsMisfit m f t → list ≡ f ++ t ∷ v → Spells list tree → IsShallow list → ⊥
none_fits list v tree (unexpected {front = f} {t = t} b never shallow) is s low = never (text_begins f t v tree list is s)
none_fits list v tree (too_deep {front = f} {t = t} b deep shallow) is s low = low f t v is deep

-- and in no front before another
none_before : {m : Misfit} {f : List Token} {t : Token} (front v : List Token) → ShowsMisfit m f t → front ≡ f ++ t ∷ v → BeginsText front → IsShallow front → ⊥
none_before front v (unexpected {front = f} {t = t} b never shallow) is (more, tree, s) low = never (front_begins f t v more tree front is s)
none_before front v (too_deep {front = f} {t = t} b deep shallow) is begins low = low f t v is deep

-- one token shows one misfit
one_misfit : {m m2 : Misfit} {f g : List Token} {t u : Token} → ShowsMisfit m f t → ShowsMisfit m2 g u → f ≡ g → t ≡ u → m ≡ m2
one_misfit (unexpected b never low) (unexpected b2 never2 low2) same is = refl
one_misfit (unexpected {front = f} {t = t} b never low) (too_deep {front = g} {t = u} b2 deep2 low2) same is =
    absurd (never (subst BeginsText (ap (λ z. z ++ u ∷ []) (sym same) ∙ ap (λ z. f ++ z ∷ []) (sym is)) b2))
one_misfit (too_deep {front = f} {t = t} b deep low) (unexpected {front = g} {t = u} b2 never2 low2) same is =
    absurd (never2 (subst BeginsText (ap (λ z. z ++ t ∷ []) same ∙ ap (λ z. g ++ z ∷ []) is) b))
one_misfit (too_deep b deep low) (too_deep b2 deep2 low2) same is = refl

same_refusal : {m m2 : Misfit} {f g : List Token} {t u : Token} (v w : List Token) → ShowsMisfit m f t → ShowsMisfit m2 g u
    → Apart f (t ∷ v) g u w → ◌≡◌ {A = Option (Misfit × Place)} (Some (m, t.place)) (Some (m2, u.place))
same_refusal {f = f} {g = g} {t = t} v w x y (inl (a, b, is, longer)) =
    let head : t ≡ a = cc in
    absurd (none_before g b x (longer ∙ ap (λ z. f ++ z ∷ b) (sym head)) (misfit_begins y) (misfit_shallow y))
same_refusal {m2 = m2} {t = t} {u = u} v w x y (inr (inl (is, tails))) =
    let head : t ≡ u = cc in
    ap (λ z. Some (z, t.place)) (one_misfit x y is head) ∙ ap (λ (z : Token). Some (m2, z.place)) head
same_refusal {f = f} v w x y (inr (inr (b, longer))) = absurd (none_before f b y longer (misfit_begins x) (misfit_shallow x))

-- a list has at most one grammar refusal
pub one_refusal : {list : List Token} {a b : Option (Misfit × Place)} → IsGrammarRefusal list a → IsGrammarRefusal list b → a ≡ b
one_refusal (fits s low) (fits s2 low2) = refl
one_refusal {list = list} (fits {tree = tree} s low) (refused f t v is shows) = absurd (none_fits list v tree shows is s low)
one_refusal {list = list} (refused f t v is shows) (fits {tree = tree} s low) = absurd (none_fits list v tree shows is s low)
one_refusal (refused f t v is shows) (refused g u w is2 shows2) = same_refusal v w shows shows2 (apart f (t ∷ v) g u w (sym is ∙ is2))
