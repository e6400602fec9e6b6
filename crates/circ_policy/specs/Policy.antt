-- What a policy says of a class and of a type of media.
use Rattle.std.specs.Prelude.{ℕ, List, Option, option_map, ◌==◌}
use Rattle.std.specs.BTreeMap.{is_at}
use Rattle.std.specs.Cmp.Lexicographic.{slice_cmp}
use Rattle.std.specs.List.{find}
use Rattle.std.specs.Map.{lookup}
use Rattle.std.specs.Ordering.{nat_cmp}
use Rattle.circ_policy.specs.Medias.{media_index}
use Rattle.circ_policy.specs.Terms.{Terms}
use Rattle.circ_policy.specs.declared.class.Class.{Class}
use Rattle.circ_policy.specs.declared.media.Media.{Media}
use Rattle.circ_policy.specs.declared.media_type.MediaType.{MediaType}

-- the limits of the class of this name
unfoldable pub class_of : Terms → List ℕ → Option Class
class_of p name = lookup (is_at (slice_cmp nat_cmp name)) p.classes

-- the terms of this type of media
unfoldable pub media_of : Terms → MediaType → Option Media
media_of p type = option_map (λ e. e.1) (find (λ e. media_index e.0 == media_index type) p.media)
