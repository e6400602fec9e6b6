-- Records put among others.
use Rattle.std.proofs.Common.{◌≡◌, Bool, true, false, cond, [], ◌∷◌, Option, Some, None, refl, ap, sym, ◌∙◌}
use Rattle.std.specs.BTreeMap.{insert_entry, is_at}
use Rattle.std.specs.Ordering.{is_eq, match_ordering, ordering_reverse}
use Rattle.std.specs.declared.cmp.Ordering.{Ordering}
use Rattle.std.specs.declared.cmp.Ordering.TheVariants.{Less, Equal, Greater}
use Rattle.circ_records.specs.Keys.{key_cmp, key_cmp_total, key_cmp-IsAntisymmetric}
use Rattle.circ_records.specs.Records.{Entries, record_at}
use Rattle.circ_records.specs.declared.key.Key.{Key}
use Rattle.circ_records.specs.declared.record.Record.{Record}
use Rattle.read_set.specs.Effects.{written}

-- A record that is put is at its key, and the others stay: by the order of the key and the first of them
put-step : (o : Ordering) (e : Key × Record) (es : Entries) (k : Key) (r : Record) (q : Key) (at : Bool) → at ≡ is_at (key_cmp q) k
    → (o ≡ Equal → k ≡ e.0) → (o ≡ Greater → at ≡ true → is_at (key_cmp q) e.0 ≡ false)
    → record_at (insert_entry key_cmp es k r) q ≡ cond at (Some r) (record_at es q)
    → record_at (match_ordering o ((k, r) ∷ e ∷ es) ((e.0, r) ∷ es) (e ∷ insert_entry key_cmp es k r)) q ≡ cond at (Some r) (record_at (e ∷ es) q)
put-step Less e es k r q at s same apart ih = ap (λ b. cond b (Some r) (record_at (e ∷ es) q)) (sym s)
put-step Equal e es k r q true s same apart ih = ap (λ b. cond b (Some r) (record_at es q)) (ap (λ j. is_at (key_cmp q) j) (sym (same refl)) ∙ sym s)
put-step Equal e es k r q false s same apart ih =
    let n : is_at (key_cmp q) e.0 ≡ false = ap (λ j. is_at (key_cmp q) j) (sym (same refl)) ∙ sym s in
    ap (λ b. cond b (Some r) (record_at es q)) n ∙ sym (ap (λ b. cond b (Some e.1) (record_at es q)) n)
put-step Greater e es k r q true s same apart ih = ap (λ b. cond b (Some e.1) (record_at (insert_entry key_cmp es k r) q)) (apart refl refl) ∙ ih
put-step Greater e es k r q false s same apart ih = ap (cond (is_at (key_cmp q) e.0) (Some e.1)) ih

tie : (o : Ordering) → is_eq o ≡ true → o ≡ Equal
tie Less e = cc
tie Equal e = refl
tie Greater e = cc

unlike : (o : Ordering) (b : Bool) → o ≡ Greater → (b ≡ true → o ≡ Equal) → b ≡ false
unlike o true g h = let e : o ≡ Equal = h refl in cc
unlike o false g h = refl

pub put-at : (es : Entries) (k : Key) (r : Record) (q : Key) → record_at (insert_entry key_cmp es k r) q ≡ cond (is_at (key_cmp q) k) (Some r) (record_at es q)
put-at [] k r q = refl
put-at (e ∷ es) k r q =
    put-step (key_cmp k e.0) e es k r q (is_at (key_cmp q) k) refl
    (key_cmp-IsAntisymmetric k e.0)
    (λ g t. unlike (key_cmp k e.0) (is_at (key_cmp q) e.0) g (λ u. ap (λ j. key_cmp j e.0) (sym (key_cmp-IsAntisymmetric q k (tie (key_cmp q k) t))) ∙ tie (key_cmp q e.0) u))
    (put-at es k r q)

kept-step : (b : Bool) (r : Record) (o : Option Record) → cond b (Some r) o ≡ None → o ≡ None
kept-step true r o e = cc
kept-step false r o e = e

-- what isn't there after a record was put wasn't there before
pub put-lacks : (es : Entries) (k : Key) (r : Record) (q : Key) → record_at (insert_entry key_cmp es k r) q ≡ None → record_at es q ≡ None
put-lacks es k r q e = kept-step (is_at (key_cmp q) k) r (record_at es q) (sym (put-at es k r q) ∙ e)

-- nor before several were
pub written-lacks : (w es : Entries) (q : Key) → record_at (written w es) q ≡ None → record_at w q ≡ None
written-lacks w [] q e = e
written-lacks w (x ∷ more) q e = put-lacks w x.0 x.1 q (written-lacks (insert_entry key_cmp w x.0 x.1) more q e)

own-reverse : (o : Ordering) → o ≡ ordering_reverse o → o ≡ Equal
own-reverse Less e = cc
own-reverse Equal e = refl
own-reverse Greater e = cc

-- a record that is put is there
pub put-there : (es : Entries) (k : Key) (r : Record) → record_at (insert_entry key_cmp es k r) k ≡ Some r
put-there es k r = put-at es k r k ∙ ap (λ o. cond (is_eq o) (Some r) (record_at es k)) (own-reverse (key_cmp k k) (key_cmp_total.antisymm k k))
