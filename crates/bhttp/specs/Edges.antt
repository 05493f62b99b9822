-- RFC 9458, Appendix A's request, a message with integers of every size, and one of each fault of 02, A3: computed on the definitions.
use Rattle.std.specs.Prelude.{ℕ, List, [], ◌∷◌, ◌++◌, map, ◌≡◌, length, replicate, Result, Ok, Err}
use Prim.Native.String.{String}
use Rattle.wire.specs.Refusals.{refused_at}
use Rattle.wire.specs.declared.refusal.Refusal.{Refusal}
use Rattle.wire.specs.Hex.{hex}
use Rattle.wire.specs.Texts.{ascii}
use Rattle.fields.specs.Parts.{bytes_of}
use Rattle.wire.specs.declared.span.Span.{Span}
use Rattle.fields.specs.declared.fault.BadMessage.{BadMessage}
use Rattle.bhttp.specs.Answers.{checked}
use Rattle.bhttp.specs.Request.{Message, request_in}
use Rattle.bhttp.specs.Stated.{field_parts}
use Rattle.bhttp.specs.declared.requests.Request.{Request}

-- a part that starts at an offset and ends at another
abbrev pub span : ℕ → ℕ → Span
span from to = record { start = from; end = to }

-- RFC 9458, Appendix A: GET https://example.com/, 25 bytes
unfoldable pub example : List ℕ
unfolding hex
example = hex "00034745540568747470730b6578616d706c652e636f6d012f"

-- what check answers of messages
abbrev pub answers : List (List ℕ) → List (Result Request Refusal)
answers messages = map (λ message. checked (request_in message)) messages

abbrev pub refused_all : List ℕ → List (Result Request Refusal)
refused_all places = map (λ place. Err (refused_at 23 place)) places

-- that request with these bytes behind it, in turn
abbrev pub behind_example : List String → List (List ℕ)
behind_example texts = map (λ text. example ++ hex text) texts

-- An integer below 64 in 1, 2, 4 and 8 bytes: it stands behind these
abbrev pub leads : List (List ℕ)
leads = [] ∷ hex "40" ∷ hex "800000" ∷ hex "c0000000000000" ∷ []

-- bytes behind their length
abbrev pub behind_length : List ℕ → List ℕ → List ℕ
behind_length lead bytes = lead ++ length bytes ∷ bytes

-- a message of which each integer stands behind a lead
abbrev pub message_with : List ℕ → List ℕ
message_with lead =
    lead ++ 0 ∷ behind_length lead (ascii "GET") ++ behind_length lead (ascii "https") ++ behind_length lead (ascii "a") ++ behind_length lead (ascii "/")
    ++ behind_length lead (behind_length lead (ascii "n") ++ behind_length lead (ascii "v")) ++ behind_length lead (ascii "xy")
    ++ behind_length lead (behind_length lead (ascii "t") ++ behind_length lead [])

-- the bytes of control data, content, names and values of a request
abbrev pub bytes_read : List ℕ → Result Message BadMessage → List (List ℕ)
bytes_read bytes (Ok m) =
    map (bytes_of bytes)
    (m.control.method ∷ m.control.scheme ∷ m.control.authority ∷ m.control.path ∷ m.contents.content
    ∷ (field_parts m.contents.headers.fields ++ field_parts m.contents.trailers.fields))
bytes_read bytes (Err bad) = []

abbrev pub read_in : List ℕ → List (List ℕ)
read_in bytes = bytes_read bytes (request_in bytes)

-- where its padding lies
abbrev pub padding_of : Result Message BadMessage → Span
padding_of (Ok message) = message.contents.padding
padding_of (Err bad) = span 0 0

pub record RequestEdges : Type 0 where
  -- Appendix A: the message ends after the path
  pub appendix_a :
      request_in example
      ≡ Ok
      (record {
        control = record { method = span 2 5; scheme = span 6 11; authority = span 12 23; path = span 24 25 };
        contents =
            record {
              headers = record { lies = span 25 25; fields = [] };
              content = span 25 25;
              trailers = record { lies = span 25 25; fields = [] };
              padding = span 25 25;
            };
      })
  -- one message with every integer in 1 byte, in 2, in 4 and in 8: the same parts
  pub every_size :
      map (λ lead. read_in (message_with lead)) leads
      ≡ replicate 4
      (ascii "GET" ∷ ascii "https" ∷ ascii "a" ∷ ascii "/" ∷ ascii "xy" ∷ ascii "n" ∷ ascii "v" ∷ ascii "t" ∷ [] ∷ [])
  -- integers of all sizes in one message, and two bytes of padding
  pub mixed_sizes :
      request_in
      (hex "80000000c000000000000003474554400568747470730161800000012f"
      ++ hex "40128000000161c0000000000000016201634000"
      ++ hex "800000027879c000000000000005400164016500" ++ hex "00")
      ≡ Ok
      (record {
        control = record { method = span 12 15; scheme = span 17 22; authority = span 23 24; path = span 28 29 };
        contents =
            record {
              headers =
                  record {
                    lies = span 31 49;
                    fields =
                        record { name = span 35 36; value = span 44 45 }
                        ∷ record { name = span 46 47; value = span 49 49 }
                        ∷ [];
                  };
              content = span 53 55;
              trailers = record { lies = span 63 68; fields = record { name = span 65 66; value = span 67 68 } ∷ [] };
              padding = span 68 70;
            };
      })
  -- each end of the message, and padding: where the padding then starts
  pub ends :
      map (λ message. padding_of (request_in message))
      (behind_example ("00" ∷ "0000" ∷ "000000" ∷ "0000000000" ∷ []))
      ≡ span 26 26 ∷ span 27 27 ∷ span 28 28 ∷ span 28 30 ∷ []
  -- framing: none, cut, 1 in one byte and in two
  pub framing : answers ([] ∷ hex "40" ∷ hex "01" ∷ hex "4001" ∷ []) ≡ refused_all (0 ∷ 1 ∷ 0 ∷ 0 ∷ [])
  -- bytes are missing: of a control part, of a section, also where its first field is wrong, of the content, of an integer; the largest length that there is
  pub missing :
      answers (hex "00034745" ∷ behind_example ("0201" ∷ "0300" ∷ "0002" ∷ "0040" ∷ "80" ∷ "ffffffffffffffff" ∷ []))
      ≡ refused_all (4 ∷ 27 ∷ 27 ∷ 27 ∷ 27 ∷ 26 ∷ 33 ∷ [])
  -- an empty name; a name that is past its section's end, by its bytes and by its length, also where it announces the most; bytes that no name has
  pub name :
      answers (behind_example ("020000" ∷ "0101" ∷ "014000" ∷ "09ffffffffffffffff00" ∷ "03014100" ∷ "0302613a00" ∷ []))
      ≡ refused_all (26 ∷ 26 ∷ 26 ∷ 26 ∷ 27 ∷ 28 ∷ [])
  -- a value past its section's end: by its bytes, by its length, and where the section ends behind the name
  pub value_length : answers (behind_example ("03016101" ∷ "03016140" ∷ "02016100" ∷ [])) ≡ refused_all (28 ∷ 28 ∷ 28 ∷ [])
  -- a value's bytes: NUL, CR, LF; a blank at the front, at the end, and alone; the first fault of two; the last of two blanks
  pub value :
      answers (behind_example ("05016102620d" ∷ "050161026200" ∷ "05016102620a" ∷ "050161022062" ∷ "050161026209" ∷ "0401610120" ∷ "0601610362000a" ∷ "06016103620020" ∷ "06016103622020" ∷ []))
      ≡ refused_all (30 ∷ 30 ∷ 30 ∷ 29 ∷ 30 ∷ 29 ∷ 30 ∷ 30 ∷ 31 ∷ [])
  -- trailers are judged as headers are; padding that is not zero
  pub behind_content : answers (behind_example ("0000020000" ∷ "0000050161026200" ∷ "0000000001" ∷ [])) ≡ refused_all (28 ∷ 32 ∷ 29 ∷ [])
