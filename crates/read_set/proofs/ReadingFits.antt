-- What is read of a message fits.
use Rattle.std.proofs.Common.{◌≡◌, ℕ, Bool, true, false, cond, List, [], length, Option, Some, None, refl, sym}
use Rattle.std.specs.Prelude.{IfSome, unwrap_or, nat_lt, not, ◌&&◌, slice_range, slice_index}
use Rattle.std.proofs.lemmas.Bool.{false≢true}
use Rattle.sip_reader.specs.Dates.{is_stamp, day_of, given_day}
use Rattle.sip_reader.specs.Fields.{Texts, texts, pieces}
use Rattle.sip_reader.specs.Fits.{Fits}
use Rattle.sip_reader.specs.Kinds.{command_at, layout_of}
use Rattle.sip_reader.specs.Reading.{trimmed, flags_at, date_at, fixed_len, rest_after, has_bad_flag, has_bad_field, names_title, lacks_field, has_bad_amount, act_of, reading_by, reading_as, reading_command, reading_of, reading_trimmed, reading}
use Rattle.sip_reader.specs.Sum.{has_trailer, has_right_sum, body, sequence}
use Rattle.sip_reader.specs.Texts.{is_text}
use Rattle.sip_reader.specs.declared.kind.Command.{Command}
use Rattle.sip_reader.specs.declared.kind.Command.TheVariants as commands
use Rattle.sip_reader.specs.declared.request.Kind.{Kind}
use Rattle.sip_reader.specs.declared.request.Kind.TheVariants as kinds
use Rattle.sip_reader.specs.declared.request.Passed.TheVariants as passed
use Rattle.sip_reader.specs.declared.request.Reading.{Reading}
use Rattle.sip_reader.specs.declared.request.Reading.TheVariants.{Asked, Passed, BadSum, Unread}
use Rattle.sip_reader.specs.declared.request.Why.TheVariants as why
use Rattle.sip_reader.proofs.Clean.{fits}
use Rattle.sip_reader.specs.Days.{IsDay}
use Rattle.read_set.specs.Coherence.{FitsAct, FitsReading}
use Rattle.read_set.proofs.DueDays.{stamp-day}

given-fits : (s : List ℕ) → IfSome (given_day s) IsDay
given-fits s = by (is_stamp s) refl
  where
    by : (b : Bool) → is_stamp s ≡ b → IfSome (cond b (Some (day_of s)) None) IsDay
    by true e = stamp-day s e
    by false e = tt

text-fits : (o : Option (List ℕ)) → is_text (unwrap_or o []) ≡ true → IfSome o (λ t. is_text t ≡ true)
text-fits None h = tt
text-fits (Some t) h = h

act-fits : (k : Kind) (m : List ℕ) (t : Texts) → Fits (layout_of k) t → FitsAct (act_of k m t)
act-fits kinds.BlockPatron m t h = tt
act-fits kinds.Checkin m t h = tt
act-fits kinds.Checkout m t h = given-fits (slice_range m 22 40)
act-fits kinds.Hold m t h = h.pickup refl
act-fits kinds.ItemStatus m t h = text-fits t.properties (h.properties refl)
act-fits kinds.PatronEnable m t h = tt
act-fits kinds.Renew m t h = given-fits (slice_range m 22 40)
act-fits kinds.FeePaid m t h = tt
act-fits kinds.RenewAll m t h = tt

-- one of two readings
either : (b : Bool) (r s : Reading) → FitsReading r → (b ≡ false → FitsReading s) → FitsReading (cond b r s)
either true r s h g = h
either false r s h g = g refl

not_false : (b : Bool) → not b ≡ false → b ≡ true
not_false true e = refl
not_false false e = absurd (false≢true (sym e))

by-fits : (s : Option ℕ) (k : Kind) (m : List ℕ) → FitsReading (reading_as s m k)
unfolding reading_by
by-fits s k m =
    let l = layout_of k in
    let rest = rest_after l m in
    let t = texts (pieces rest) in
    let asked : Reading = Asked (record { sequence = s; date = date_at l m; act = act_of k m t }) in
    either (nat_lt (length m) (fixed_len l)) (Unread why.TooShort) _ tt (λ long.
    either (not (is_stamp (date_at l m))) (Unread why.BadDate) _ tt (λ stamp.
    either (has_bad_flag l (flags_at l m)) (Unread why.BadFlag) _ tt (λ flags.
    either (has_bad_field l rest t) (Unread why.BadField) _ tt (λ fine.
    either (names_title l t) (Passed passed.Title) _ tt (λ named.
    either (lacks_field l t) (Unread why.MissingField) _ tt (λ there.
    either (has_bad_amount l t) (Unread why.BadAmount) asked tt (λ spelt.
    (not_false (is_stamp (date_at l m)) stamp, act-fits k m t (fits l rest t refl fine there spelt)))))))))

command-fits : (s : Option ℕ) (m : List ℕ) (c : Option Command) → FitsReading (reading_command s m c)
command-fits s m None = tt
command-fits s m (Some (commands.Passed p)) = tt
command-fits s m (Some (commands.Request k)) = by-fits s k m

of-fits : (s : Option ℕ) (m : List ℕ) → FitsReading (reading_of s m)
unfolding reading_of
of-fits s m = either (nat_lt (length m) 2) (Unread why.TooShort) _ tt (λ e. command-fits s m (command_at (slice_index m 0) (slice_index m 1)))

trimmed-fits : (m : List ℕ) → FitsReading (reading_trimmed m)
unfolding reading_trimmed
trimmed-fits m =
    either (nat_lt 4096 (length m)) (Unread why.TooLong) _ tt (λ e. either (has_trailer m && not (has_right_sum m)) BadSum _ tt (λ e. of-fits (sequence m) (body m)))

-- the reading of any message fits
pub reading-fits : (message : List ℕ) → FitsReading (reading message)
reading-fits message = trimmed-fits (trimmed message)
