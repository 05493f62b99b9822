-- The refusal numbers of 01 and of 02, A2 and A3, by the reasons that the code names.
use Rattle.std.specs.Prelude.{ℕ, List, codes}
use Rattle.wire.specs.declared.refusal.Reason.{Reason}

-- the number of each reason; 10 is kept free, and 15 is no longer given
abbrev pub number_of : Reason → ℕ
number_of Reason.TooShort = 1
number_of Reason.TooLong = 2
number_of Reason.UnknownKem = 3
number_of Reason.NoSuchKey = 4
number_of Reason.OtherKem = 5
number_of Reason.PairNotOffered = 6
number_of Reason.KeyRetired = 7
number_of Reason.KeyUsedUp = 8
number_of Reason.TableFull = 9
number_of Reason.NotPending = 11
number_of Reason.StepNotAllowed = 12
number_of Reason.WrongLength = 13
number_of Reason.NoRoom = 14
number_of Reason.NoUsableConfiguration = 16
number_of Reason.CapOutOfRange = 17
number_of Reason.ListTruncated = 18
number_of Reason.LengthMismatch = 19
number_of Reason.BadPairLength = 20
number_of Reason.DuplicateKeyId = 21
number_of Reason.TooManyConfigurations = 22
number_of Reason.BadMessage = 23

-- the text that each is printed as
abbrev pub text_of : Reason → List ℕ
text_of Reason.TooShort = codes "too short"
text_of Reason.TooLong = codes "too long"
text_of Reason.UnknownKem = codes "unknown KEM"
text_of Reason.NoSuchKey = codes "no such key"
text_of Reason.OtherKem = codes "not the KEM of the key"
text_of Reason.PairNotOffered = codes "the pair is unknown or not offered"
text_of Reason.KeyRetired = codes "the key is retired"
text_of Reason.KeyUsedUp = codes "the key is used up"
text_of Reason.TableFull = codes "too many exchanges are pending"
text_of Reason.NotPending = codes "the ticket is not pending"
text_of Reason.StepNotAllowed = codes "the step is not allowed now"
text_of Reason.WrongLength = codes "wrong length"
text_of Reason.NoRoom = codes "no room in the buffer"
text_of Reason.NoUsableConfiguration = codes "no usable configuration"
text_of Reason.CapOutOfRange = codes "the cap is out of its range"
text_of Reason.ListTruncated = codes "the key list is cut off"
text_of Reason.LengthMismatch = codes "the length of a configuration is wrong"
text_of Reason.BadPairLength = codes "the length of the pairs is wrong"
text_of Reason.DuplicateKeyId = codes "a key id stands twice in the list"
text_of Reason.TooManyConfigurations = codes "too many configurations"
text_of Reason.BadMessage = codes "the message inside is bad"
