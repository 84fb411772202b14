-- A yes/no column at the prime 3, where antt tries all choices: "no" and "yes" count the same where a server is left out, an entry that is
-- not valid does not, and "no" and "yes" come apart where every share is seen. Assumes nothing.
use mathlib.Core.Path.{◌≡◌, refl}
use mathlib.Core.List.{[], ◌∷◌}
use Rattle.rules.proofs.Computed.Computing.{everything}
use Rattle.privacy.specs.Choices.{count_choices}
use Rattle.privacy.specs.Sight.{sight, same_sight}
use Rattle.privacy.specs.Examples.{like_no, like_no_beside}

-- of 81 choices, those that show with 0, "no", with 1, "yes", and with 2, which is not valid, what one of them shows with "no": to whoever
-- sees the round messages, and to server 1
pub round_messages_seen : (like_no 0 0 ∷ like_no 0 1 ∷ like_no 0 2 ∷ []) ≡ 9 ∷ 9 ∷ 0 ∷ []
unfolding everything count_choices sight same_sight like_no
round_messages_seen = refl

pub one_share_seen : (like_no_beside 0 0 ∷ like_no_beside 0 1 ∷ like_no_beside 0 2 ∷ []) ≡ 9 ∷ 9 ∷ 0 ∷ []
unfolding everything count_choices sight same_sight like_no_beside
one_share_seen = refl

-- with "no" and with "yes", to whoever sees every share: of one server, and of two
pub all_seen : (like_no 1 0 ∷ like_no 1 1 ∷ like_no_beside 2 0 ∷ like_no_beside 2 1 ∷ []) ≡ 1 ∷ 0 ∷ 1 ∷ 0 ∷ []
unfolding everything count_choices sight same_sight like_no like_no_beside
all_seen = refl
