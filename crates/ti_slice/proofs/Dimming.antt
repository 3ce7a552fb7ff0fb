-- Proves that the code finds the dimensions of the foreach loops around a statement.
use Rattle.std.proofs.Common.{◌≡◌, ◌∙◌, ap, refl, sym, ℕ, zero, suc, ◌==◌, if◌then◌else◌, ◌+◌, ◌<◌, ◌≤◌, List, [], ◌∷◌, ◌++◌, take, reverse, length, map, drop, get_or, Option, add-one, arith}
use Rattle.std.proofs.Math.Seq.{take-suc}
use Rattle.std.proofs.lemmas.List.{reverse-append, length-reverse, length-take-le}
use Rattle.std.specs.declared.alloc.Global.{Global}
use Rattle.std.specs.declared.boxed.Box.{Box}
use Rattle.ti_lang.specs.declared.typing.text.ForeachDims.{ForeachDims}
use Rattle.ti_lang.specs.Program.Statements.{NumberedStm, NumberedStms}
use Rattle.ti_lang.specs.Program.Statements as s
use Rattle.ti_lang.specs.Program.Classes.{ProgramView}
use Rattle.ti_lang.specs.Typing.Kinds.{dim_of_type}
use Rattle.ti_lang.specs.Typing.TextTypes.{type_at}
use Rattle.ti_lang.specs.Mirrors.ListedDims.{dims_in}
use Rattle.ti_lang.specs.Meaning.Held.{Held}
use Rattle.ti_lang.specs.Meaning.Processes.{ContItem, Do, End}
use Rattle.ti_lang.specs.Meaning.Turns.{dims_at}
use Rattle.ti_eval.specs.declared.frame.CanonicalPoint.{CanonicalPoint}
use Rattle.ti_eval.specs.declared.frame.Resume.{Resume}
use Rattle.ti_eval.specs.declared.frame.Resume.TheVariants as resume
use Rattle.ti_eval.specs.declared.frame.StmtFrame.{StmtFrame}
use Rattle.ti_eval.specs.Places.{list_of, inside}
use Rattle.ti_eval.specs.Frames.{MethodContext, work_of, work_of_body, pending_of, rest_of, list_in, domain_in, end_of_for}

module _ (program : ProgramView) (this : Option ℕ) where
  -- the dimensions where this is left of a statement, from those around it
  abbrev pub dims_behind : NumberedStm → Resume → (ℕ → ℕ) → ℕ → ℕ
  dims_behind x (resume.Turn variable domain at) dims number = if variable == number then dim_of_type (type_at program this dims (domain_in x)) else dims number
  dims_behind x t dims number = dims number

  none_alone : (xs : List NumberedStm) → dims_at program this (map Do xs) ≡ (λ number. 1)
  none_alone [] = refl
  none_alone (x ∷ xs) = none_alone xs

  none_in_list : (xs : List NumberedStm) (x : NumberedStm) (ws : List ContItem) → dims_at program this ((map Do xs ++ End x ∷ []) ++ ws) ≡ dims_at program this ws
  none_in_list [] x ws = refl
  none_in_list (y ∷ xs) x ws = none_in_list xs x ws

  none_at_end : (x : NumberedStm) (ws : List ContItem) → dims_at program this (end_of_for x ++ ws) ≡ dims_at program this ws
  none_at_end (s.For at first c update body) ws = refl
  none_at_end s.Empty ws = refl
  none_at_end (s.Declare at type variable value) ws = refl
  none_at_end (s.Assign at target value) ws = refl
  none_at_end (s.Update at op target y) ws = refl
  none_at_end (s.Step at op target) ws = refl
  none_at_end (s.Call y) ws = refl
  none_at_end (s.Print at what) ws = refl
  none_at_end (s.Barrier at) ws = refl
  none_at_end (s.If at e y) ws = refl
  none_at_end (s.IfElse at e y z) ws = refl
  none_at_end (s.While at e body) ws = refl
  none_at_end (s.Foreach at variable domain body) ws = refl
  none_at_end (s.Block body) ws = refl
  none_at_end (s.Break at) ws = refl
  none_at_end (s.Continue at) ws = refl
  none_at_end (s.Return at value) ws = refl

  dims_left : (site : MethodContext) (x : NumberedStm) (t : Resume) (ws : List ContItem) → dims_at program this (work_of site x t ++ ws) ≡ dims_behind x t (dims_at program this ws)
  dims_left site x (resume.From n) ws = none_in_list (drop n (list_in x)) x ws
  dims_left site x resume.Before ws = none_at_end x ws
  dims_left site x resume.Behind ws = none_at_end x ws
  dims_left site x _ ws = refl

  dims_of_body : (body : NumberedStms) (t : Resume) → dims_at program this (work_of_body body t) ≡ (λ number. 1)
  dims_of_body body (resume.From n) = none_alone (drop n (list_of body))
  dims_of_body body _ = refl

  -- the dimensions around the innermost of these levels, the outermost first
  abbrev pub dims_rest : MethodContext → NumberedStms → List StmtFrame → ℕ → ℕ
  dims_rest site body ls = dims_at program this (rest_of site body (reverse ls))

  left_is : (site : MethodContext) (body : NumberedStms) (l : StmtFrame) (ls : List StmtFrame) → 0 < length ls
      → dims_at program this (rest_of site body (l ∷ ls)) ≡ dims_behind (inside body ls) l.resume (dims_at program this (rest_of site body ls))
  left_is site body l [] h = absurd (omega arith)
  left_is site body l (k ∷ ks) h = dims_left site (inside body (k ∷ ks)) l.resume (pending_of site body ks k.resume)

  -- one level more, which isn't the outermost
  one_level : (site : MethodContext) (body : NumberedStms) (xs : List StmtFrame) (m : ℕ) (d : StmtFrame) → m < length xs → 0 < m
      → dims_rest site body (take (m + 1) xs) ≡ dims_behind (inside body (reverse (take m xs))) (get_or xs m d).resume (dims_rest site body (take m xs))
  one_level site body xs m d h k =
      let e : length (reverse (take m xs)) ≡ m = length-reverse (take m xs) ∙ length-take-le m xs (omega arith) in
      rw (add-one, take-suc xs m d h, reverse-append) (left_is site body (get_or xs m d) (reverse (take m xs)) (omega (arith, e)))

  -- no loop is around the first
  pub none_first : (site : MethodContext) (body : NumberedStms) (xs : List StmtFrame) (n : ℕ) → n ≤ 1 → (λ number. 1) ≡ dims_rest site body (take n xs)
  none_first site body xs zero h = refl
  none_first site body [] (suc zero) h = refl
  none_first site body (x ∷ xs) (suc zero) h = sym (dims_of_body body x.resume)
  none_first site body xs (suc (suc n)) h = absurd (omega arith)

  -- the turn of a loop
  pub one_turn : (site : MethodContext) (body : NumberedStms) (xs : List StmtFrame) (m : ℕ) (d : StmtFrame) (ds : List ForeachDims) (f : ForeachDims) (x : NumberedStm) (domain : Box Held Global) (at : CanonicalPoint)
      → m < length xs → 0 < m → (get_or xs m d).resume ≡ resume.Turn f.variable domain at → x ≡ inside body (reverse (take m xs))
      → f.dims ≡ dim_of_type (type_at program this (dims_in (reverse ds)) (domain_in x)) → dims_in (reverse ds) ≡ dims_rest site body (take m xs)
      → dims_in (reverse (ds ++ f ∷ [])) ≡ dims_rest site body (take (m + 1) xs)
  one_turn site body xs m d ds f x domain at h k is here told so =
      let y : NumberedStm = inside body (reverse (take m xs)) in
      let counted : f.dims ≡ dim_of_type (type_at program this (dims_rest site body (take m xs)) (domain_in y)) =
      told ∙ (λ i. dim_of_type (type_at program this (so i) (domain_in (here i)))) in
      let listed : dims_in (f ∷ reverse ds) ≡ dims_behind y (resume.Turn f.variable domain at) (dims_rest site body (take m xs)) =
      λ i number. if f.variable == number then counted i else so i number in
      rw reverse-append
      (listed ∙ ap (λ t. dims_behind y t (dims_rest site body (take m xs))) (sym is) ∙ sym (one_level site body xs m d h k))

  skips : (t : Resume) → ((variable : ℕ) (domain : Box Held Global) (at : CanonicalPoint) → t ≡ resume.Turn variable domain at → ⊥) → (x : NumberedStm) (dims : ℕ → ℕ) → dims_behind x t dims ≡ dims
  skips (resume.Turn variable domain at) differs x dims = absurd (differs variable domain at refl)
  skips _ differs x dims = refl

  -- what is left is no turn
  pub no_turn : (site : MethodContext) (body : NumberedStms) (xs : List StmtFrame) (m : ℕ) (d : StmtFrame) (ds : List ForeachDims) → m < length xs → 0 < m
      → ((variable : ℕ) (domain : Box Held Global) (at : CanonicalPoint) → (get_or xs m d).resume ≡ resume.Turn variable domain at → ⊥) → dims_in (reverse ds) ≡ dims_rest site body (take m xs)
      → dims_in (reverse ds) ≡ dims_rest site body (take (m + 1) xs)
  no_turn site body xs m d ds h k differs so =
      so ∙ sym (one_level site body xs m d h k ∙ skips (get_or xs m d).resume differs (inside body (reverse (take m xs))) (dims_rest site body (take m xs)))
