-- Words by number as an environment, and changes that are taken back.
use Rattle.std.proofs.Common.{◌≡◌, ℕ, zero, suc, ◌+◌, ◌<◌, ◌≤◌, ◌==◌, if◌then◌else◌, List, [], ◌∷◌, ◌++◌, length, get_or, set, take, drop, arith, ap, sym, ◌∙◌, refl, inl, inr, append_assoc}
use Rattle.std.specs.Prelude.{true, false, replicate}
use Rattle.std.proofs.Math.Path.{fun_ext}
use Rattle.std.proofs.Math.ListN.{get_or-eq_default}
use Rattle.std.proofs.Math.Seq.{drop-append_seam, take-append_seam}
use Rattle.std.proofs.lemmas.Bool.{cases_eq, cases_lt}
use Rattle.std.proofs.lemmas.Bool.Decides.{nat_tests}
use Rattle.std.proofs.lemmas.List.{set-get_or, get_or-set_same, get_or-set_other, drop_more, drop_all, take_more, drop-append-le, take-append-le, length-set}
use Rattle.av_ir.specs.declared.module.ValueId.{ValueId}
use Rattle.av_ir.specs.Run.{Value, word, Env, bind_value, bind_values, values_at}
use Rattle.av_scalar.specs.declared.names.Names.{Names}
use Rattle.av_scalar.specs.declared.names.Change.{Change}
use Rattle.av_scalar.specs.Names.{Since, env_of, unwound, values}

-- a word in its place is a value of its number
module _ (before now : Names) (n p : ℕ) (within : n < length before.words) (put : now.words ≡ set before.words n p) where
  at_number : (k : ℕ) → word (get_or now.words k 0) ≡ (if k == n then word p else word (get_or before.words k 0))
  at_number k =
      let e : get_or now.words k 0 ≡ get_or (set before.words n p) k 0 = ap (λ ws. get_or ws k 0) put in
      elim (cases_eq k n) [
        | inl same ↦
            let a : get_or (set before.words n p) k 0 ≡ p = ap (λ i. get_or (set before.words n p) i 0) same ∙ get_or-set_same before.words n p 0 within in
            let t : (k == n) ≡ true = grind (arith, nat_tests) in
            ap word (e ∙ a) ∙ sym (ap (λ b. if b then word p else word (get_or before.words k 0)) t)
        | inr other ↦
            let t : (k == n) ≡ false = grind (arith, nat_tests) in
            ap word (e ∙ get_or-set_other before.words n k p 0 other) ∙ sym (ap (λ b. if b then word p else word (get_or before.words k 0)) t)
      ]

  pub env_bound : env_of now ≡ bind_value (env_of before) n (word p)
  unfolding env_of
  env_bound = fun_ext at_number

bind_first : (env : Env) (id : ValueId) (ids : List ValueId) (vs : List Value)
    → bind_values env (id ∷ ids) vs ≡ bind_values (bind_value env id.0 (get_or vs 0 (word 0))) ids (drop 1 vs)
bind_first env id ids [] = refl
bind_first env id ids (v ∷ vs) = refl

first_value : (ws : List ℕ) (i : ℕ) → (get_or (values (drop i ws)) 0 (word 0) ≡ word (get_or ws i 0)) × (drop 1 (values (drop i ws)) ≡ values (drop (i + 1) ws))
first_value ws i = elim (cases_lt i (length ws)) [
  | inl h ↦ let e = drop_more ws i 0 h in (ap (λ l. get_or (values l) 0 (word 0)) e, ap (λ l. drop 1 (values l)) e)
  | inr h ↦
      let e = drop_all i ws h in
      let f : drop (i + 1) ws ≡ [] = drop_all (i + 1) ws (omega arith) in
      (ap (λ l. get_or (values l) 0 (word 0)) e ∙ ap word (sym (get_or-eq_default ws 0 h)), ap (λ l. drop 1 (values l)) e ∙ sym (ap values f))
]

-- one more value of a list is bound
pub bind_step : (env : Env) (ids : List ValueId) (ws : List ℕ) (i : ℕ) (id : ValueId) (p : ℕ) → i < length ids → id ≡ get_or ids i id → p ≡ get_or ws i 0
    → bind_values env (drop i ids) (values (drop i ws)) ≡ bind_values (bind_value env id.0 (word p)) (drop (i + 1) ids) (values (drop (i + 1) ws))
bind_step env ids ws i id p below is read =
    let e : drop i ids ≡ id ∷ drop (i + 1) ids = drop_more ids i id below ∙ ap (λ x. x ∷ drop (i + 1) ids) (sym is) in
    let f = first_value ws i in
    ap (λ l. bind_values env l (values (drop i ws))) e
    ∙ bind_first env id (drop (i + 1) ids) (values (drop i ws))
    ∙ ap (λ v. bind_values (bind_value env id.0 v) (drop (i + 1) ids) (drop 1 (values (drop i ws)))) (f.0 ∙ ap word (sym read))
    ∙ ap (bind_values (bind_value env id.0 (word p)) (drop (i + 1) ids)) f.1

pub none_bound : (env : Env) (ids : List ValueId) (vs : List Value) (i : ℕ) → length ids ≤ i → bind_values env (drop i ids) vs ≡ env
none_bound env ids vs i h = ap (λ l. bind_values env l vs) (drop_all i ids h) ∙ nothing vs where
  nothing : (us : List Value) → bind_values env [] us ≡ env
  nothing [] = refl
  nothing (u ∷ us) = refl

-- ---- changes
unwound-push : (ws : List ℕ) (cs : List Change) (c : Change) → unwound ws (cs ++ c ∷ []) ≡ unwound (set ws c.number c.before) cs
unwound-push ws [] c = refl
unwound-push ws (d ∷ cs) c = ap (λ l. set l d.number d.before) (unwound-push ws cs c)

set_again : (ws : List ℕ) (n p q : ℕ) → set (set ws n p) n q ≡ set ws n q
set_again [] n p q = refl
set_again (w ∷ ws) zero p q = refl
set_again (w ∷ ws) (suc n) p q = ap (λ l. w ∷ l) (set_again ws n p q)

pub length-unwound : (ws : List ℕ) (cs : List Change) → length (unwound ws cs) ≡ length ws
length-unwound ws [] = refl
length-unwound ws (c ∷ cs) = length-set (unwound ws cs) c.number c.before ∙ length-unwound ws cs

pub as_many_words : (before now : Names) → Since before now → length now.words ≡ length before.words
as_many_words before now s = sym (length-unwound now.words s.changes) ∙ ap length s.back

append-nil : {A : Type 0} (xs : List A) → xs ++ [] ≡ xs
append-nil [] = refl
append-nil (x ∷ xs) = ap (λ l. x ∷ l) (append-nil xs)

pub since_itself : (names : Names) → Since names names
since_itself names = record { changes = []; kept = sym (append-nil names.changes); back = refl }

unwound-append : (ws : List ℕ) (cs ds : List Change) → unwound ws (cs ++ ds) ≡ unwound (unwound ws ds) cs
unwound-append ws [] ds = refl
unwound-append ws (c ∷ cs) ds = ap (λ l. set l c.number c.before) (unwound-append ws cs ds)

pub since_then : (a b c : Names) → Since a b → Since b c → Since a c
since_then a b c first second = record {
  changes = first.changes ++ second.changes;
  kept = second.kept ∙ ap (λ l. l ++ second.changes) first.kept ∙ append_assoc a.changes first.changes second.changes;
  back = unwound-append c.words first.changes second.changes ∙ ap (λ l. unwound l first.changes) second.back ∙ first.back;
}

pub since_bound : (a b : Names) (n p : ℕ) → b.words ≡ set a.words n p
    → b.changes ≡ a.changes ++ (record { number = n; before = get_or a.words n 0 } ∷ []) → Since a b
since_bound a b n p words changes = record {
  changes = record { number = n; before = get_or a.words n 0 } ∷ [];
  kept = changes;
  back = ap (λ l. set l n (get_or a.words n 0)) words ∙ set_again a.words n p (get_or a.words n 0) ∙ set-get_or a.words n 0;
}

-- the last change is taken back
module _ (old new : List Change) (last : Change) (mark : ℕ) (popped : old ≡ new ++ last ∷ []) (past : mark < length old) where
  still : mark ≤ length new
  still = let e = ap length popped in let f = length-append-one new in omega arith where
    length-append-one : (l : List Change) → length (l ++ last ∷ []) ≡ length l + 1
    length-append-one [] = refl
    length-append-one (x ∷ xs) = let h = length-append-one xs in omega arith

  pub one_back : (ws now : List ℕ) → now ≡ set ws last.number last.before → unwound now (drop mark new) ≡ unwound ws (drop mark old)
  one_back ws now put =
      ap (λ l. unwound l (drop mark new)) put
      ∙ sym (ap (λ l. unwound ws (drop mark l)) popped ∙ ap (unwound ws) (drop-append-le mark new (last ∷ []) still) ∙ unwound-push ws (drop mark new) last)

  pub mark_kept : take mark new ≡ take mark old
  mark_kept = sym (ap (take mark) popped ∙ take-append-le mark new (last ∷ []) still)

-- once all changes since then are taken back, all is as it was then
pub restored : (a b now : Names) → Since a b → now.words ≡ unwound b.words (drop (length a.changes) b.changes) → now.changes ≡ take (length a.changes) b.changes → now ≡ a
restored a b now s words changes =
    let w : now.words ≡ a.words = words ∙ ap (λ l. unwound b.words (drop (length a.changes) l)) s.kept ∙ ap (unwound b.words) (drop-append_seam a.changes s.changes) ∙ s.back in
    let t : now.changes ≡ a.changes = changes ∙ ap (take (length a.changes)) s.kept ∙ take-append_seam a.changes s.changes in
    λ i. record { words = w i; changes = t i }

-- ---- words read
pub no_words : (n k : ℕ) → get_or {A = ℕ} (replicate {A = ℕ} n 0) k 0 ≡ 0
no_words zero zero = refl
no_words zero (suc k) = refl
no_words (suc n) zero = refl
no_words (suc n) (suc k) = no_words n k

values-push : (ws : List ℕ) (p : ℕ) → values (ws ++ p ∷ []) ≡ values ws ++ word p ∷ []
values-push [] p = refl
values-push (w ∷ ws) p = ap (λ l. word w ∷ l) (values-push ws p)

values_at-push : (env : Env) (ids : List ValueId) (id : ValueId) → values_at env (ids ++ id ∷ []) ≡ values_at env ids ++ env id.0 ∷ []
values_at-push env [] id = refl
values_at-push env (x ∷ ids) id = ap (λ l. env x.0 ∷ l) (values_at-push env ids id)

pub read_more : (names : Names) (ids : List ValueId) (i p : ℕ) (ws more : List ℕ) → i < length ids
    → p ≡ get_or names.words (get_or ids i (record { 0 = 0 })).0 0 → more ≡ ws ++ p ∷ [] → values ws ≡ values_at (env_of names) (take i ids)
    → values more ≡ values_at (env_of names) (take (i + 1) ids)
unfolding env_of
read_more names ids i p ws more below read pushed h =
    let id : ValueId = get_or ids i (record { 0 = 0 }) in
    ap values pushed ∙ values-push ws p ∙ ap (λ l. l ++ word p ∷ []) h ∙ ap (λ q. values_at (env_of names) (take i ids) ++ word q ∷ []) read
    ∙ sym (ap (values_at (env_of names)) (take_more ids i (record { 0 = 0 }) below) ∙ values_at-push (env_of names) (take i ids) id)
