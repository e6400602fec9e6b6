-- The classes of patrons that a policy has.
use Rattle.std.specs.Prelude.{ℕ, Bool, List, is_some, ◌&&◌}
use Rattle.circ_policy.specs.Policy.{class_of}
use Rattle.circ_policy.specs.Terms.{Terms}
use Rattle.sip_reader.specs.Texts.{is_id}

-- whether the policy has a class of this name, which is an id
unfoldable pub has_class : Terms → List ℕ → Bool
has_class policy name = is_id name && is_some (class_of policy name)
