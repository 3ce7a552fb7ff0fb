-- Proves that the code finds the effects of pending work.
use Rattle.std.proofs.Common.{◌≡◌, ◌∙◌, ap, sym, refl, ℕ, zero, suc, ◌-◌, ◌<◌, ◌≤◌, Bool, false, ◌&&◌, ◌||◌, List, [], ◌∷◌, ◌++◌, map, drop, take, reverse, length, get_or, Option, None, Some, unwrap_or, arith, drop_of_length-le}
use Rattle.std.proofs.Math.Seq.{take-suc}
use Rattle.std.proofs.lemmas.List.{reverse-append, length-take-le}
use Rattle.std.specs.declared.alloc.Global.{Global}
use Rattle.std.specs.declared.boxed.Box.{Box}
use Rattle.ti_base.specs.declared.point.Point.{Point}
use Rattle.ti_lang.specs.Program.Classes.{NumberedMethod, ProgramView}
use Rattle.ti_lang.specs.Program.Scope.{this_of}
use Rattle.ti_lang.specs.Program.Statements.{NumberedStm, NoStm, NumberedStms, numbered_stms}
use Rattle.ti_lang.specs.Program.Statements as s
use Rattle.ti_lang.specs.Typing.Effects.{Doings, doings, return_acts, jump_acts, has_global_effects}
use Rattle.ti_lang.specs.Meaning.Held.{Held}
use Rattle.ti_lang.specs.Meaning.Processes.{ContItem, Do, End, Before, Behind}
use Rattle.ti_rules.specs.StmtInContext.{loop_acts}
use Rattle.ti_align.specs.Slice.{loop_effects, jump_at, work_acts}
use Rattle.ti_eval.specs.declared.frame.CanonicalPoint.{CanonicalPoint}
use Rattle.ti_eval.specs.declared.frame.Resume.{Resume}
use Rattle.ti_eval.specs.declared.frame.Resume.TheVariants as resume
use Rattle.ti_eval.specs.declared.frame.StmtFrame.{StmtFrame}
use Rattle.ti_eval.specs.Places.{inside, list_of}
use Rattle.ti_eval.specs.Frames.{MethodContext, no_method, work_of, work_of_body, rest_of, list_in, end_of_for, loop_of, foreach_of, points_above}
use Rattle.ti_moves.specs.Outcomes.{method_at}
use Rattle.ti_exec.specs.declared.process.CallFrame.{CallFrame}
use Rattle.ti_exec.specs.Marks.{is_mark}
use Rattle.ti_exec.specs.States.{IsAtHand, context_of_call, innermost_stmt, left_in}
use Rattle.ti_exec.proofs.Lemmas.{left_within}
use Rattle.ti_slice.proofs.Spots.{none_inside}
use Rattle.ti_slice.specs.Mirrors.FirstWork.{first_acts}

-- ---- loops

pub foreach_has : (p : ProgramView) (m : NumberedMethod) (this : Option ℕ) (x body : NumberedStm) (d : Doings) (has : Bool) → has
    ≡ jump_acts (return_acts p m) d → d ≡ doings p this x → this ≡ this_of m → x ≡ body
    → has ≡ loop_acts p m NoStm body
foreach_has p m this x body d has is is_d is_this is_x =
    is ∙ ap (jump_acts (return_acts p m)) (is_d ∙ ap (λ t. doings p t x) is_this ∙ ap (doings p (this_of m)) is_x)

-- ---- jumps

-- at the mark of a `foreach`
pub turn_mark : (p : ProgramView) (m : NumberedMethod) (has : Bool) (x y : NumberedStm) (t : Resume) (variable : ℕ) (domain : Box Held Global) (at : CanonicalPoint) → t ≡ resume.Turn variable domain at → x ≡ y
    → ((v : ℕ) (points : List Point) → has ≡ loop_effects p m (foreach_of y v points)) → (site : MethodContext) (ws : List ContItem) → jump_at p m (work_of site x t ++ ws) ≡ Some has
turn_mark p m has x y t variable domain at is is_x acts site ws =
    ap (λ u. jump_at p m (work_of site x u ++ ws)) is
    ∙ ap (λ z. jump_at p m (work_of site z (resume.Turn variable domain at) ++ ws)) is_x
    ∙ ap Some (sym (acts variable (at.point ∷ points_above domain.value (Some at.point))))

past_block : (p : ProgramView) (m : NumberedMethod) (xs : List NumberedStm) (x : NumberedStm) (ws : List ContItem) → jump_at p m ((map Do xs ++ End x ∷ []) ++ ws) ≡ jump_at p m ws
past_block p m [] x ws = refl
past_block p m (y ∷ xs) x ws = past_block p m xs x ws

past_end : (p : ProgramView) (m : NumberedMethod) (x : NumberedStm) (ws : List ContItem) → jump_at p m (end_of_for x ++ ws) ≡ jump_at p m ws
past_end p m (s.For at first c update body) ws = refl
past_end p m s.Empty ws = refl
past_end p m (s.Declare at type variable value) ws = refl
past_end p m (s.Assign at target value) ws = refl
past_end p m (s.Update at op target y) ws = refl
past_end p m (s.Step at op target) ws = refl
past_end p m (s.Call y) ws = refl
past_end p m (s.Print at what) ws = refl
past_end p m (s.Barrier at) ws = refl
past_end p m (s.If at e y) ws = refl
past_end p m (s.IfElse at e y z) ws = refl
past_end p m (s.While at e body) ws = refl
past_end p m (s.Foreach at variable domain body) ws = refl
past_end p m (s.Block body) ws = refl
past_end p m (s.Break at) ws = refl
past_end p m (s.Continue at) ws = refl
past_end p m (s.Return at value) ws = refl

no_mark : (p : ProgramView) (m : NumberedMethod) (site : MethodContext) (x : NumberedStm) (t : Resume) (ws : List ContItem) → is_mark t ≡ false → jump_at p m (work_of site x t ++ ws) ≡ jump_at p m ws
no_mark p m site x (resume.From n) ws h = past_block p m (drop n (list_in x)) x ws
no_mark p m site x resume.Before ws h = past_end p m x ws
no_mark p m site x resume.Behind ws h = cc
no_mark p m site x (resume.Turn variable domain at) ws h = cc
no_mark p m site x _ ws h = refl

none_in_body : (p : ProgramView) (m : NumberedMethod) (xs : List NumberedStm) → jump_at p m (map Do xs) ≡ None
none_in_body p m [] = refl
none_in_body p m (x ∷ xs) = none_in_body p m xs

no_mark_in_body : (p : ProgramView) (m : NumberedMethod) (body : NumberedStms) (t : Resume) → jump_at p m (work_of_body body t) ≡ None
no_mark_in_body p m body (resume.From n) = none_in_body p m (drop n (list_of body))
no_mark_in_body p m body _ = refl

-- one level more, which isn't the outermost
one_level : (site : MethodContext) (body : NumberedStms) (xs : List StmtFrame) (k : ℕ) (d : StmtFrame) → k < length xs → 0 < k
    → rest_of site body (reverse (take (suc k) xs)) ≡ work_of site (inside body (reverse (take k xs))) (get_or xs k d).resume ++ rest_of site body (reverse (take k xs))
one_level site body xs k d h o =
    let e : length (take k xs) ≡ k = length-take-le k xs (omega arith) in
    rw (take-suc xs k d h, reverse-append) (left_within site body (take k xs) (get_or xs k d).resume (omega (arith, e)))

-- the same, counted from behind it
level_before : (site : MethodContext) (body : NumberedStms) (xs : List StmtFrame) (n : ℕ) (d : StmtFrame) → 1 < n → n ≤ length xs
    → rest_of site body (reverse (take n xs)) ≡ work_of site (inside body (reverse (take (n - 1) xs))) (get_or xs (n - 1) d).resume ++ rest_of site body (reverse (take (n - 1) xs))
level_before site body xs n d h k =
    let e : n ≡ suc (n - 1) = omega arith in
    ap (λ j. rest_of site body (reverse (take j xs))) e ∙ one_level site body xs (n - 1) d (omega arith) (omega arith)

-- inside these levels a jump goes as far as inside those
abbrev pub SameJump : ProgramView → NumberedMethod → NumberedStms → List StmtFrame → List StmtFrame → Type 0
SameJump p m body xs ys = (site : MethodContext) → jump_at p m (rest_of site body (reverse xs)) ≡ jump_at p m (rest_of site body (reverse ys))

pub jump_found : (p : ProgramView) (m : NumberedMethod) (body : NumberedStms) (xs : List StmtFrame) (n : ℕ) (d : StmtFrame) (has : Bool)
    (x : NumberedStm) → 1 < n → n ≤ length xs → x ≡ inside body (reverse (take (n - 1) xs))
    → ((site : MethodContext) (ws : List ContItem) → jump_at p m (work_of site x (get_or xs (n - 1) d).resume ++ ws) ≡ Some has) → SameJump p m body xs (take n xs)
    → (site : MethodContext) → has ≡ unwrap_or (jump_at p m (rest_of site body (reverse xs))) false
jump_found p m body xs n d has x h k is acts same site =
    let ws = rest_of site body (reverse (take (n - 1) xs)) in
    sym (ap (λ o. unwrap_or o false) (same site ∙ ap (jump_at p m) (level_before site body xs n d h k)
    ∙ ap (λ y. jump_at p m (work_of site y (get_or xs (n - 1) d).resume ++ ws)) (sym is) ∙ acts site ws))

pub jump_further : (p : ProgramView) (m : NumberedMethod) (body : NumberedStms) (xs : List StmtFrame) (n : ℕ) (d : StmtFrame) → 1 < n → n ≤ length xs → is_mark (get_or xs (n - 1) d).resume ≡ false
    → SameJump p m body xs (take n xs) → SameJump p m body xs (take (n - 1) xs)
jump_further p m body xs n d h k none same site =
    same site ∙ ap (jump_at p m) (level_before site body xs n d h k)
    ∙ no_mark p m site (inside body (reverse (take (n - 1) xs))) (get_or xs (n - 1) d).resume (rest_of site body (reverse (take (n - 1) xs))) none

outermost : (p : ProgramView) (m : NumberedMethod) (body : NumberedStms) (xs : List StmtFrame) (n : ℕ) → n ≤ 1 → (site : MethodContext) → jump_at p m (rest_of site body (reverse (take n xs))) ≡ None
outermost p m body xs zero h site = refl
outermost p m body [] (suc n) h site = refl
outermost p m body (x ∷ xs) (suc zero) h site = no_mark_in_body p m body x.resume
outermost p m body (x ∷ xs) (suc (suc n)) h site = absurd (omega arith)

pub jump_nowhere : (p : ProgramView) (m : NumberedMethod) (body : NumberedStms) (xs : List StmtFrame) (n : ℕ) → n ≤ 1
    → SameJump p m body xs (take n xs) → (site : MethodContext) → false ≡ unwrap_or (jump_at p m (rest_of site body (reverse xs))) false
jump_nowhere p m body xs n h same site = sym (ap (λ o. unwrap_or o false) (same site ∙ outermost p m body xs n h site))

-- ---- what is at hand

block_done : (site : MethodContext) (x : NumberedStm) (n : ℕ) → length (list_in x) ≤ n → work_of site x (resume.From n) ≡ End x ∷ []
block_done site x n h = ap (λ xs. map Do xs ++ End x ∷ []) (drop_of_length-le (list_in x) h)

-- one piece of work is left of the statement
pub one_left : (site : MethodContext) (x : NumberedStm) (t : Resume) (levels : ℕ) → (t ≡ resume.Before → ⊥) → (t ≡ resume.Behind → ⊥) → 0 < levels → IsAtHand x levels t → (w : ContItem) × (work_of site x t ≡ w ∷ [])
one_left site x resume.Inside levels b e h a = absurd (omega arith)
one_left site x (resume.From n) levels b e h a = (_, block_done site x n a)
one_left site x resume.Before levels b e h a = absurd (b refl)
one_left site x resume.Behind levels b e h a = absurd (e refl)
one_left site x _ levels b e h a = (_, refl)

-- a loop is left, and its end
pub before_end : (site : MethodContext) (x : NumberedStm) (t after : Resume) → t ≡ resume.Before → work_of site x after ≡ end_of_for x → (w : ContItem) × (work_of site x t ≡ w ∷ work_of site x after)
before_end site x t after is e = (Before (loop_of x), ap (work_of site x) is ∙ ap (λ ws. Before (loop_of x) ∷ ws) (sym e))

pub behind_end : (site : MethodContext) (x : NumberedStm) (t after : Resume) → t ≡ resume.Behind → work_of site x after ≡ end_of_for x → (w : ContItem) × (work_of site x t ≡ w ∷ work_of site x after)
behind_end site x t after is e = (Behind (loop_of x), ap (work_of site x) is ∙ ap (λ ws. Behind (loop_of x) ∷ ws) (sym e))

-- ---- the effects of the first piece

pub list_acts : (p : ProgramView) (m : NumberedMethod) (site : MethodContext) (x : NumberedStm) (n : ℕ) (ws : List ContItem) → length (list_in x) ≤ n
    → first_acts p m (work_of site x (resume.From n) ++ ws) ≡ work_acts p m ws (Do x)
list_acts p m site x n ws h = ap (λ us. first_acts p m (us ++ ws)) (block_done site x n h)

-- that of a statement, from what it does
pub statement_has : (p : ProgramView) (m : NumberedMethod) (this : Option ℕ) (x : NumberedStm) (d : Doings) (ws : List ContItem)
    (loop has : Bool) → d ≡ doings p this x → this ≡ this_of m → loop ≡ jump_acts (return_acts p m) d
    → has ≡ (loop || (d.jumps && unwrap_or (jump_at p m ws) false)) → has ≡ work_acts p m ws (Do x)
statement_has p m this x d ws loop has is_d is_this is_loop is =
    is ∙ ap (λ b. b || (d.jumps && unwrap_or (jump_at p m ws) false)) is_loop
    ∙ ap (has_global_effects (return_acts p m) (unwrap_or (jump_at p m ws) false)) (is_d ∙ ap (λ t. doings p t x) is_this)

-- that of a `foreach`
pub each_acts : (p : ProgramView) (m : NumberedMethod) (has : Bool) (x : NumberedStm) (t : Resume) (variable : ℕ)
    (domain : Box Held Global) (last : Option Point) → t ≡ resume.Each variable domain last
    → ((v : ℕ) (points : List Point) → has ≡ loop_effects p m (foreach_of x v points)) → (site : MethodContext) (ws : List ContItem) → has ≡ first_acts p m (work_of site x t ++ ws)
each_acts p m has x t variable domain last is acts site ws =
    acts variable (points_above domain.value last) ∙ sym (ap (λ u. first_acts p m (work_of site x u ++ ws)) is)

pub turn_acts : (p : ProgramView) (m : NumberedMethod) (has : Bool) (x : NumberedStm) (t : Resume) (variable : ℕ) (domain : Box Held Global) (at : CanonicalPoint) → t ≡ resume.Turn variable domain at
    → ((v : ℕ) (points : List Point) → has ≡ loop_effects p m (foreach_of x v points)) → (site : MethodContext) (ws : List ContItem) → has ≡ first_acts p m (work_of site x t ++ ws)
turn_acts p m has x t variable domain at is acts site ws =
    acts variable (at.point ∷ points_above domain.value (Some at.point)) ∙ sym (ap (λ u. first_acts p m (work_of site x u ++ ws)) is)

-- a statement that isn't there has none
nothing_acts : (p : ProgramView) (m : NumberedMethod) (site : MethodContext) (t : Resume) (levels : ℕ) (ws : List ContItem) → 0 < levels
    → IsAtHand s.Empty levels t → first_acts p m (work_of site s.Empty t ++ ws) ≡ false
nothing_acts p m site resume.Inside levels ws h a = absurd (omega arith)
nothing_acts p m site (resume.From n) levels ws h a = list_acts p m site s.Empty n ws a
nothing_acts p m site _ levels ws h a = refl

-- the work that is left in a call
pub acts_in_call : (p : ProgramView) (f : CallFrame) (t : Resume) (m : NumberedMethod) (x : NumberedStm) (has : Bool) → m ≡ method_at p f.method → x ≡ innermost_stmt p f → 0 < length f.levels.items
    → ((site : MethodContext) → has ≡ first_acts p m (work_of site x t ++ rest_of site (numbered_stms m.body) (reverse f.levels.items))) → (procs : ℕ) (w : ContItem) (ws : List ContItem) → left_in p procs f t ≡ w ∷ ws
    → has ≡ work_acts p (method_at p f.method) ws w
acts_in_call p f t m x has is_m is_x h acts procs w ws e =
    let site = context_of_call p procs f in
    let n = method_at p f.method in
    acts site
    ∙ ap (λ (k : NumberedMethod). first_acts p k (work_of site x t ++ rest_of site (numbered_stms k.body) (reverse f.levels.items))) is_m
    ∙ ap (λ y. first_acts p n (work_of site y t ++ rest_of site (numbered_stms n.body) (reverse f.levels.items))) is_x
    ∙ ap (first_acts p n) (sym (left_within site _ f.levels.items t h) ∙ e)

-- without a statement there
pub nothing_there : (p : ProgramView) (f : CallFrame) (t : Resume) → s.Empty ≡ innermost_stmt p f → 0 < length f.levels.items
    → IsAtHand (innermost_stmt p f) (length f.levels.items) t → (procs : ℕ) (w : ContItem) (ws : List ContItem)
    → left_in p procs f t ≡ w ∷ ws → false ≡ work_acts p (method_at p f.method) ws w
nothing_there p f t is h a procs w ws e =
    let at : IsAtHand s.Empty (length f.levels.items) t = rw is a in
    acts_in_call p f t (method_at p f.method) s.Empty false refl is h (λ site. sym (nothing_acts p (method_at p f.method) site t (length f.levels.items) _ h at)) procs w ws e

-- nor in a method that isn't there
pub none_here : (p : ProgramView) (f : CallFrame) → no_method ≡ method_at p f.method → 0 < length f.levels.items → s.Empty ≡ innermost_stmt p f
none_here p f is h = none_inside f.levels.items h ∙ ap (λ (m : NumberedMethod). inside (numbered_stms m.body) (reverse f.levels.items)) is
