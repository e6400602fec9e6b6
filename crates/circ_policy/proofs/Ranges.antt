-- What a policy file says lies in its ranges.
use Rattle.std.proofs.Common.{◌≡◌, ◌≤◌, ℕ, ℤ, pos, negsuc, Bool, true, false, cond, List, [], ◌∷◌, Option, Some, None, refl, ap, subst, arith}
use Rattle.std.specs.Prelude.{Result, Ok, Err, option_and_then, option_map, nat_le, ◌&&◌, ◌==◌, codes}
use Rattle.std.specs.List.{find}
use Rattle.std.proofs.lemmas.Bool.{and_parts, leb-true}
use Rattle.toml.specs.Data.{Data, Members, no_members, member, as_integer, as_table, get_member}
use Rattle.sip_reader.specs.declared.amount.TheConstants.{AMOUNT_MAX}
use Rattle.circ_policy.specs.Medias.{media_index, media_of_code}
use Rattle.circ_policy.specs.Order.{in_byte_order}
use Rattle.circ_policy.specs.Policy.{media_of}
use Rattle.circ_policy.specs.Ranges.{AllFit, FitsMedia, FitsPolicy}
use Rattle.circ_policy.specs.Reading.{Refusal, ◌>>=◌, required, within, whole, amount, only, media_keys, lending, media_in, entries, section, policy_in, policy_of, policy_of_document, known_keys, institution_in, currency_at, due_form_at, closed_in, class_in, document_of}
use Rattle.circ_policy.specs.Terms.{Terms}
use Rattle.circ_policy.specs.Values.{in_range, whole_of}
use Rattle.circ_policy.specs.declared.media.Media.{Media}
use Rattle.circ_policy.specs.declared.media_type.MediaType.{MediaType}

-- what two steps give, each gives
bound : {A B : Type 0} (r : Result A Refusal) (f : A → Result B Refusal) (y : B) → (r >>= f) ≡ Ok y
    → (x : A) × (r ≡ Ok x) × (f x ≡ Ok y)
bound (Ok x) f y h = (x, refl, h)
bound (Err e) f y h = absurd (cc h)

abbrev ok_of : {A : Type 0} → A → Result A Refusal
ok_of x = Ok x

same_ok : {A : Type 0} (x y : A) → ok_of x ≡ Ok y → x ≡ y
same_ok x y h = cc h

required-some : {X : Type 0} (key : List ℕ) (o : Option X) (x : X) → required key o ≡ Ok x → o ≡ Some x
required-some key None x h = absurd (cc h)
required-some key (Some y) x h = cc h

range-bound : (low high : ℕ) (z : ℤ) (n : ℕ) → in_range low high z ≡ Some n → (low ≤ n) × (n ≤ high)
range-bound low high (negsuc m) n h = absurd (cc h)
range-bound low high (pos m) n h = by (nat_le low m && nat_le m high) refl h
  where
    by : (b : Bool) → (nat_le low m && nat_le m high) ≡ b → cond b (Some m) None ≡ Some n → (low ≤ n) × (n ≤ high)
    by true e g =
        let same : m ≡ n = cc g in
        let both = and_parts (nat_le low m) (nat_le m high) e in
        let least = leb-true low m both.0 in
        let most = leb-true m high both.1 in
        (omega (arith, same, least), omega (arith, same, most))
    by false e g = absurd (cc g)

within-bound : (low high : ℕ) (o : Option ℤ) (n : ℕ)
    → option_and_then (in_range low high) o ≡ Some n → (low ≤ n) × (n ≤ high)
within-bound low high None n h = absurd (cc h)
within-bound low high (Some z) n h = range-bound low high z n h

whole-bound : (low high : ℕ) (entry : List ℕ) (ms : Members) (key : List ℕ) (n : ℕ)
    → whole low high entry ms key ≡ Ok n → (low ≤ n) × (n ≤ high)
unfolding whole
whole-bound low high entry ms key n h =
    within-bound low high (option_and_then as_integer (get_member key ms)) n (required-some (within entry key) (whole_of low high (get_member key ms)) n h)

lending-fits : (entry : List ℕ) (ms : Members) (m : Media) → lending entry ms ≡ Ok m → FitsMedia m
unfolding lending
lending-fits entry ms m h =
    let known = bound (only media_keys entry ms) _ m h in
    let days = bound (whole 1 3650 entry ms (codes "days")) _ m known.2 in
    let rental = bound (amount entry ms (codes "rental")) _ m days.2 in
    let late = bound (amount entry ms (codes "late")) _ m rental.2 in
    let cap = bound (amount entry ms (codes "cap")) _ m late.2 in
    let same : record { days = days.0; rental = rental.0; late = late.0; cap = cap.0 } ≡ m = same_ok _ m cap.2 in
    let a = whole-bound 1 3650 entry ms (codes "days") days.0 days.1 in
    let b = whole-bound 0 AMOUNT_MAX entry ms (codes "rental") rental.0 rental.1 in
    let c = whole-bound 0 AMOUNT_MAX entry ms (codes "late") late.0 late.1 in
    let d = whole-bound 0 AMOUNT_MAX entry ms (codes "cap") cap.0 cap.1 in
    subst FitsMedia same (record { least = a.0; days = a.1; rental = b.1; late = c.1; cap = d.1 })

media-fits : (name : List ℕ) (d : Data) (e : MediaType × Media) → media_in name d ≡ Ok e → FitsMedia e.1
unfolding media_in
media-fits name d e h =
    let type = bound (required (within (codes "media") name) (media_of_code name)) _ e h in
    let ms = bound (required (within (codes "media") name) (as_table d)) _ e type.2 in
    let media = bound (lending (within (codes "media") name) ms.0) _ e ms.2 in
    let same : (type.0, media.0) ≡ e = same_ok (type.0, media.0) e media.2 in
    subst (λ (x : MediaType × Media). FitsMedia x.1) same (lending-fits (within (codes "media") name) ms.0 media.0 media.1)

entries-fit : (ms : Members) (es : List (MediaType × Media)) → entries media_in ms ≡ Ok es → AllFit es
entries-fit no_members es h = subst AllFit (same_ok [] es h) tt
entries-fit (member name d ms) es h =
    let x = bound (media_in name d) _ es h in
    let xs = bound (entries media_in ms) _ es x.2 in
    subst AllFit (same_ok (x.0 ∷ xs.0) es xs.2) (media-fits name d x.0 x.1, entries-fit ms xs.0 xs.1)

-- so what a document lists for its types of media fits
pub section-fits : (ms : Members) (es : List (MediaType × Media)) → section (codes "media") media_in ms ≡ Ok es → AllFit es
unfolding section
section-fits ms es h =
    let table = bound (required (codes "media") (option_and_then as_table (get_member (codes "media") ms))) _ es h in
    entries-fit (in_byte_order table.0) es table.2

found-fits : (p : MediaType × Media → Bool) (es : List (MediaType × Media)) (m : Media) → AllFit es
    → option_map (λ e. e.1) (find p es) ≡ Some m → FitsMedia m
found-fits p [] m all h = absurd (cc h)
found-fits p (e ∷ es) m all h = by (p e) (λ g. found-fits p es m all.1 g) h
  where
    by : (b : Bool) → (option_map (λ (e : MediaType × Media). e.1) (find p es) ≡ Some m
        → FitsMedia m) → option_map (λ (e : MediaType × Media). e.1)
        (cond b (Some e) (find p es)) ≡ Some m → FitsMedia m
    by true next g = let same : e.1 ≡ m = cc g in subst FitsMedia same all.0
    by false next g = next g

-- what a policy gives for a type of media is among what it lists
pub listed-fits : (p : Terms) → AllFit p.media → FitsPolicy p
unfolding media_of
listed-fits p all type media is = found-fits (λ e. media_index e.0 == media_index type) p.media media all is

document-fits : (ms : Members) (p : Terms) → policy_in ms ≡ Ok p → FitsPolicy p
unfolding policy_in
document-fits ms p h =
    let known = bound (known_keys ms) _ p h in
    let institution = bound (institution_in ms) _ p known.2 in
    let currency = bound (currency_at ms) _ p institution.2 in
    let due_form = bound (due_form_at ms) _ p currency.2 in
    let closed = bound (closed_in ms) _ p due_form.2 in
    let classes = bound (section (codes "class") class_in ms) _ p closed.2 in
    let medias = bound (section (codes "media") media_in ms) _ p classes.2 in
    let same : medias.0 ≡ p.media = ap (λ (x : Terms). x.media) (same_ok _ p medias.2) in
    listed-fits p (subst AllFit same (section-fits ms medias.0 medias.1))

of-document : (o : Option Members) (p : Terms) → policy_of_document o ≡ Ok p → FitsPolicy p
of-document None p h = absurd (cc h)
of-document (Some ms) p h = document-fits ms p h

-- what a policy's bytes say is within its ranges
pub policy-fits : (bytes : List ℕ) (p : Terms) → policy_of bytes ≡ Ok p → FitsPolicy p
policy-fits bytes p h = of-document (document_of bytes) p h
