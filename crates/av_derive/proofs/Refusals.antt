-- What the machine refuses is derived in no way.
use Rattle.std.proofs.Common.{◌≡◌, ◌≢◌, ℕ, suc, ◌+◌, ◌<◌, ◌≤◌, inl, inr, true, false, List, [], ◌∷◌, ◌++◌, Some, None, Option, length, reverse, take, drop, get_or, refl, sym, ◌∙◌, ap, subst, arith, append_assoc, add-one}
use Rattle.std.proofs.lemmas.Bool.{cases_Bool}
use Rattle.std.proofs.lemmas.List.{append-nil, take_all}
use Rattle.std.proofs.Math.Seq.{drop-cons}
use Rattle.av_tree.specs.declared.class.Class.{Class}
use Rattle.av_tree.specs.declared.class.Class.TheVariants as class
use Rattle.av_tree.specs.declared.class.Bracket.{Bracket}
use Rattle.av_tree.specs.declared.class.Bracket.TheVariants as bracket
use Rattle.av_tree.specs.declared.table.Symbol.{Symbol}
use Rattle.av_tree.specs.declared.table.Symbol.TheVariants as symbol
use Rattle.av_tree.specs.declared.table.Name.{Name}
use Rattle.av_tree.specs.declared.table.Name.TheVariants as name
use Rattle.av_tree.specs.declared.table.file.FileName.TheVariants as file_name
use Rattle.av_tree.specs.declared.table.Rule.{Rule}
use Rattle.av_tree.specs.Table.{symbols_of, name_of, choice_of}
use Rattle.av_tree.specs.Classes.{bracket_of}
use Rattle.av_tree.specs.Needs.{need_of}
use Rattle.av_tree.proofs.Depth.{lift, needed, lift-row, need-within, no-bracket}
use Rattle.av_derive.specs.declared.machine.Event.{Event}
use Rattle.av_derive.specs.declared.machine.Event.TheVariants as event
use Rattle.av_derive.specs.declared.machine.Limits.{Limits}
use Rattle.av_derive.specs.declared.machine.Machine.{Machine}
use Rattle.av_derive.specs.declared.machine.Stop.{Stop}
use Rattle.av_derive.specs.declared.machine.Stop.TheVariants as stop
use Rattle.av_derive.specs.Derivation.{Derives, DerivesFile, Derived, NoneBegins, NoneDerives, nothing_left, by_sign, by_word, by_token, by_row, opened, WithinBrackets, signs_with, WithinSigns}
use Rattle.av_derive.specs.State.{Continues, Only, Doomed, Told, is_name, Stands, StandsFresh, Expanded, Shifted, ahead, open_after, signs_after, Fits, spelled, Earlier}
use Rattle.av_derive.proofs.Steps.{signs-append, signs-bound, leads-token, counted-token, open-append, open-bound, brackets-append, next_off, row_on}
use Rattle.av_derive.proofs.Balance.{room-token}
use Rattle.av_derive.proofs.OneDerivation.{chosen, next-comes, told-row, told-tail, told-file}

row-goes-on : {n : ℕ} {x : Name} {ss : List Symbol} {cs : List Class} {rest : List Event} (r : Rule) → Told (symbol.Rows x ∷ ss)
    → choice_of x (ahead cs) ≡ r → Derives n (symbol.Rows x ∷ ss) cs rest → Continues n (symbols_of r ++ ss) cs (event.Row r n ∷ []) rest
row-goes-on {n} {x} {ss} {cs} r told e (by_row {es = es} r' e' d) =
    let same : r' ≡ r = sym (chosen r' x ss (ahead cs) e' told (next-comes d)) ∙ e in
    record {
      rest = es;
      splits = ap (λ (q : Rule). event.Row q n ∷ es) same;
      derives = subst (λ (q : Rule). Derives n (symbols_of q ++ ss) cs es) same d;
    }

pub token-goes-on : {n : ℕ} {s : Symbol} {ss : List Symbol} {c : Class} {cs : List Class} {rest : List Event} → is_name (Some s) ≡ false
    → Derives n (s ∷ ss) (c ∷ cs) rest → Fits s c × Continues (suc n) ss cs (spelled s n) rest
token-goes-on k (by_sign {es = es} e d) = (e, record { rest = es; splits = refl; derives = d })
token-goes-on k (by_word {es = es} e d) = (e, record { rest = es; splits = refl; derives = d })
token-goes-on k (by_token {es = es} e d) = (e, record { rest = es; splits = refl; derives = d })
token-goes-on k (by_row r e d) = absurd (cc)

pub nothing-more : {n : ℕ} {c : Class} {cs : List Class} {rest : List Event} → Derives n [] (c ∷ cs) rest → ⊥
nothing-more d = elim d [ ]

token-lacks : {n : ℕ} {s : Symbol} {ss : List Symbol} {rest : List Event} → is_name (Some s) ≡ false → Derives n (s ∷ ss) [] rest → ⊥
token-lacks k (by_row r e d) = absurd (cc)

pub only-row : (n : ℕ) (taken : List Class) (events : List Event) (x : Name) (ss : List Symbol) (r : Rule) (c : Class) → Told (symbol.Rows x ∷ ss) → choice_of x c ≡ r
    → Only n taken events (symbol.Rows x ∷ ss) c → Only n taken (events ++ event.Row r n ∷ []) (symbols_of r ++ ss) c
only-row n taken events x ss r c told e o = record {
  only = λ cs es q d.
      let k = o.only cs es q d in
      let g : Continues n (symbols_of r ++ ss) cs (event.Row r n ∷ []) k.rest = row-goes-on r told (ap (choice_of x) q ∙ e) k.derives in
      record {
        rest = g.rest;
        splits = k.splits ∙ ap (λ (l : List Event). events ++ l) g.splits ∙ sym (append_assoc events (event.Row r n ∷ []) g.rest);
        derives = g.derives;
      };
}

pub only-token : (n : ℕ) (taken : List Class) (events : List Event) (s : Symbol) (ss : List Symbol) (c next : Class) → is_name (Some s) ≡ false
    → Only n taken events (s ∷ ss) c → Only (n + 1) (taken ++ c ∷ []) (events ++ spelled s n) ss next
only-token n taken events s ss c next no_name o = record {
  only = λ cs es q d.
      let d' : DerivesFile (taken ++ (c ∷ cs)) es = rw append_assoc at d in
      let k = o.only (c ∷ cs) es refl d' in
      let g : Continues (suc n) ss cs (spelled s n) k.rest = (token-goes-on no_name k.derives).1 in
      record {
        rest = g.rest;
        splits = k.splits ∙ ap (λ (l : List Event). events ++ l) g.splits ∙ sym (append_assoc events (spelled s n) g.rest);
        derives = rw add-one g.derives;
      };
}

brackets-rest : (most before : ℕ) (taken cs : List Class) → before ≤ most → WithinBrackets most before (taken ++ cs)
    → (open_after before taken ≤ most) × WithinBrackets most (open_after before taken) cs
brackets-rest most before [] cs h w = (h, w)
brackets-rest most before (c ∷ taken) cs h w = brackets-rest most (opened (bracket_of c) before) taken cs w.0 w.1

signs-first : (most before : ℕ) (es rest : List Event) → WithinSigns most before (es ++ rest) → WithinSigns most before es
signs-first most before [] rest w = tt
signs-first most before (event.Token n ∷ es) rest w = signs-first most before es rest w
signs-first most before (event.Row r n ∷ es) rest w = (w.0, signs-first most (signs_with r before) es rest w.1)

needed-before : (b : Bracket) (d y most : ℕ) → d ≤ most → opened b d + y ≤ most → d + needed b y ≤ most
needed-before bracket.Opens d y most h k = omega arith
needed-before bracket.Closes d y most h k = omega arith
needed-before bracket.None d y most h k = k

-- What the symbols need stays within the limit where they are derived.
lift-within : {n : ℕ} {ss : List Symbol} {cs : List Class} {es : List Event} (most d : ℕ) → Derives n ss cs es → d ≤ most
    → WithinBrackets most d cs → d + lift ss ≤ most
lift-within most d nothing_left h w = omega arith
lift-within most d (by_sign {s = s} {c = c} {ss = ss} e k) h w =
    let rest : opened (bracket_of c) d + lift ss ≤ most = lift-within most (opened (bracket_of c) d) k w.0 w.1 in
    needed-before (bracket_of (class.Sign s)) d (lift ss) most h (subst (λ (v : Class). opened (bracket_of v) d + lift ss ≤ most) e rest)
lift-within most d (by_word {w = word} {c = c} {ss = ss} e k) h w =
    let rest : opened (bracket_of c) d + lift ss ≤ most = lift-within most (opened (bracket_of c) d) k w.0 w.1 in
    subst (λ (v : Class). opened (bracket_of v) d + lift ss ≤ most) e rest
lift-within most d (by_token {t = t} {c = c} {ss = ss} e k) h w =
    let rest : opened (bracket_of c) d + lift ss ≤ most = lift-within most (opened (bracket_of c) d) k w.0 w.1 in
    subst (λ (b : Bracket). opened b d + lift ss ≤ most) (no-bracket t c e) rest
lift-within most d (by_row {x = x} {ss = ss} r e k) h w =
    let rest : d + lift (symbols_of r ++ ss) ≤ most = lift-within most d k h w in
    let row : lift (symbol.Rows (name_of r) ∷ ss) ≤ lift (symbols_of r ++ ss) = lift-row r ss in
    let own : d + lift (symbol.Rows (name_of r) ∷ ss) ≤ most = omega arith in
    subst (λ (y : Name). d + lift (symbol.Rows y ∷ ss) ≤ most) e own

pub doomed-row : (limits : Limits) (n : ℕ) (taken : List Class) (events : List Event) (x : Name) (ss : List Symbol) (r : Rule) (c : Class) (depth signs : ℕ)
    → Told (symbol.Rows x ∷ ss) → choice_of x c ≡ r → Only n taken events (symbol.Rows x ∷ ss) c
    → depth ≡ open_after 0 taken → signs ≡ signs_after 0 events
    → (depth + need_of r ≤ limits.brackets → signs_with r signs ≤ limits.signs → ⊥) → Doomed limits taken c
doomed-row limits n taken events x ss r c depth signs told e o deep many refused cs es q d =
    let k : Continues n (symbols_of r ++ ss) cs (events ++ event.Row r n ∷ []) es = (only-row n taken events x ss r c told e o).only cs es q d.derives in
    let low = brackets-rest limits.brackets 0 taken cs (omega arith) d.brackets in
    let lifted : open_after 0 taken + lift (symbols_of r ++ ss) ≤ limits.brackets = lift-within limits.brackets (open_after 0 taken) k.derives low.0 low.1 in
    let own : need_of r ≤ lift (symbols_of r ++ ss) = need-within r ss in
    let few : WithinSigns limits.signs 0 (events ++ event.Row r n ∷ []) = signs-first limits.signs 0 (events ++ event.Row r n ∷ []) k.rest (rw k.splits at d.signs) in
    let bound : signs_after 0 (events ++ event.Row r n ∷ []) ≤ limits.signs = signs-bound limits.signs 0 (events ++ event.Row r n ∷ []) (omega arith) few in
    let after : signs_with r (signs_after 0 events) ≤ limits.signs = rw signs-append at bound in
    refused (rw deep (omega arith)) (rw many after)

pub fresh-stands : (m : Machine) → m.stack.items ≡ symbol.Rows (name.File file_name.File) ∷ [] → m.events.items ≡ [] → m.depth ≡ 0 → m.signs ≡ 0 → StandsFresh m
fresh-stands m e f deep many cs = record {
  leads = rw (e, f) (record { whole = λ cs es d. d });
  depth = deep;
  brackets = tt;
  signs = rw (many, f) (record { counted = refl; within = tt });
  only = λ next. rw (e, f) (record { only = λ cs es q d. record { rest = es; splits = refl; derives = d } });
  told = rw e told-file;
  room = rw (e, deep) (omega arith, omega arith, tt);
  earlier = rw f tt;
}

pub next-class : (cs : List Class) (n : ℕ) (d : Class) → n < length cs → get_or cs n d ≡ ahead (drop n cs)
next-class cs n d h = rw (drop-cons cs n d) refl

pub token-refused : (m : Machine) (s : Symbol) (c : Class) (cs : List Class) (n : ℕ) (why : Stop) → n < length cs → get_or cs n class.End ≡ c
    → take (n + 1) cs ≡ take n cs ++ c ∷ [] → Expanded m (Some s) cs n → m.depth ≡ open_after 0 (take n cs)
    → (Fits s c → m.over ≡ false → opened (bracket_of c) m.depth ≤ m.limits.brackets → why ≡ stop.NoMemory)
    → why ≢ stop.NoMemory → NoneBegins m.limits (take (n + 1) cs)
token-refused m s c cs n why h at more x deep wrong other rest es d =
    let d' : Derived m.limits (take n cs ++ (c ∷ rest)) es = rw (more, append_assoc) at d in
    let q : c ≡ ahead (drop n cs) = sym at ∙ next-class cs n class.End h in
    let k = x.only.only (c ∷ rest) es q d'.derives in
    let g = token-goes-on x.no_name k.derives in
    let low = brackets-rest m.limits.brackets 0 (take n cs) (c ∷ rest) (omega arith) d'.brackets in
    let fits : opened (bracket_of c) m.depth ≤ m.limits.brackets = rw deep low.1.0 in
    elim (cases_Bool m.over) [
      | inl over ↦ x.doomed over (c ∷ rest) es q d'
      | inr under ↦ other (wrong g.0 under fits)
    ]

pub nothing-asked : (m : Machine) (cs : List Class) (n : ℕ) → n < length cs → take (n + 1) cs ≡ take n cs ++ get_or cs n class.End ∷ []
    → Expanded m None cs n → m.stack.items ≡ [] → NoneBegins m.limits (take (n + 1) cs)
nothing-asked m cs n h more x empty rest es d =
    let c : Class = get_or cs n class.End in
    let d' : Derived m.limits (take n cs ++ (c ∷ rest)) es = rw (more, append_assoc) at d in
    let k = x.only.only (c ∷ rest) es (next-class cs n class.End h) d'.derives in
    nothing-more (rw empty at k.derives)

end-class : (cs : List Class) (n : ℕ) → n ≡ length cs → class.End ≡ ahead (drop n cs)
end-class [] n e = rw e refl
end-class (c ∷ cs) n e = rw e (end-class cs (length cs) refl)

whole : (limits : Limits) (cs : List Class) (n : ℕ) (es : List Event) → n ≡ length cs → Derived limits cs es → Derived limits (take n cs ++ []) es
whole limits cs n es e d = rw (append-nil, take_all n cs (omega arith)) d

pub more-needed : (m : Machine) (s : Symbol) (cs : List Class) (n : ℕ) → n ≡ length cs → Expanded m (Some s) cs n → NoneDerives m.limits cs
more-needed m s cs n e x es d =
    token-lacks x.no_name (x.only.only [] es (end-class cs n e) (whole m.limits cs n es e d).derives).derives

pub end-doomed : (m : Machine) (next : Option Symbol) (cs : List Class) (n : ℕ) → n ≡ length cs → Expanded m next cs n → m.over ≡ true → NoneDerives m.limits cs
end-doomed m next cs n e x over es d = x.doomed over [] es (end-class cs n e) (whole m.limits cs n es e d)

pub row-step : (n : ℕ) (taken : List Class) (events events' : List Event) (x : Name) (items popped after : List Symbol) (r : Rule) (c : Class)
    → items ≡ popped ++ symbol.Rows x ∷ [] → name_of r ≡ x → after ≡ popped ++ reverse (symbols_of r) → events' ≡ events ++ event.Row r n ∷ []
    → choice_of x c ≡ r → Only n taken events (reverse items) c → Told (reverse items)
    → Only n taken events' (reverse after) c × Told (reverse after)
row-step n taken events events' x items popped after r c e named e' f chose o told =
    let o' : Only n taken events (symbol.Rows x ∷ reverse popped) c = rw (e, next_off popped (symbol.Rows x)) at o in
    let told' : Told (symbol.Rows x ∷ reverse popped) = rw (e, next_off popped (symbol.Rows x)) at told in (
      rw (e', f, row_on popped (symbols_of r)) (only-row n taken events x (reverse popped) r c told' chose o'),
      rw (e', row_on popped (symbols_of r)) (told-row r x (reverse popped) named told'),
    )

pub row-doomed : (limits : Limits) (n : ℕ) (taken : List Class) (events : List Event) (x : Name) (items popped : List Symbol) (r : Rule) (c : Class) (depth signs : ℕ)
    → items ≡ popped ++ symbol.Rows x ∷ [] → choice_of x c ≡ r → Only n taken events (reverse items) c → Told (reverse items)
    → depth ≡ open_after 0 taken → signs ≡ signs_after 0 events
    → (depth + need_of r ≤ limits.brackets → signs_with r signs ≤ limits.signs → ⊥) → Doomed limits taken c
row-doomed limits n taken events x items popped r c depth signs e chose o told deep many refused =
    let o' : Only n taken events (symbol.Rows x ∷ reverse popped) c = rw (e, next_off popped (symbol.Rows x)) at o in
    let told' : Told (symbol.Rows x ∷ reverse popped) = rw (e, next_off popped (symbol.Rows x)) at told in
    doomed-row limits n taken events x (reverse popped) r c depth signs told' chose o' deep many refused

earlier-token : (most n : ℕ) (s : Symbol) (es : List Event) → Earlier most es → Earlier most (es ++ spelled s n)
earlier-token most n (symbol.Sign s) es h = rw append-nil h
earlier-token most n (symbol.Word s) es h = rw append-nil h
earlier-token most n (symbol.Rows s) es h = rw append-nil h
earlier-token most n (symbol.Token s) [] h = tt
earlier-token most n (symbol.Token s) (event.Token k ∷ es) h = earlier-token most n (symbol.Token s) es h
earlier-token most n (symbol.Token s) (event.Row r k ∷ es) h = (h.0, earlier-token most n (symbol.Token s) es h.1)

pub taken-more : (m m' : Machine) (s : Symbol) (c : Class) (cs : List Class) (n : ℕ)
    → take (n + 1) cs ≡ take n cs ++ c ∷ [] → c ≡ ahead (drop n cs) → Expanded m (Some s) cs n
    → m.depth ≡ open_after 0 (take n cs) → WithinBrackets m.limits.brackets 0 (take n cs)
    → Shifted m m' s c n → Stands m' cs (n + 1)
taken-more m m' s c cs n more q e deep within k =
    let now : m'.depth ≡ opened (bracket_of c) (open_after 0 (take n cs)) = k.depth ∙ ap (opened (bracket_of c)) deep in
    let low : m.depth ≤ m.limits.brackets = rw deep (open-bound m.limits.brackets 0 (take n cs) (omega arith) within) in
    let o : Only n (take n cs) m.events.items (s ∷ reverse m.stack.items) c = rw (← q) at e.only in
    record {
      leads = rw (more, k.events, k.stack) (leads-token n (take n cs) m.events.items s c (reverse m.stack.items) k.fits e.leads);
      depth = rw more (now ∙ sym (open-append 0 (take n cs) c));
      brackets = rw (more, k.limits) (brackets-append m.limits.brackets 0 (take n cs) c within (rw (← now) (k.within low)));
      signs = rw (k.limits, k.signs, k.events) (counted-token s n (e.signs k.under));
      only = λ next. rw (more, k.events, k.stack) (only-token n (take n cs) m.events.items s (reverse m.stack.items) c next e.no_name o);
      told = rw k.stack (told-tail s (reverse m.stack.items) e.told);
      room = rw (k.limits, k.depth, k.stack) (room-token s c (reverse m.stack.items) m.limits.brackets m.depth k.fits (e.room k.under));
      earlier = rw k.events (earlier-token (n + 1) n s m.events.items e.earlier);
    }
