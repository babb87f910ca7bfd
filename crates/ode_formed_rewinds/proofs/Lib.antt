mod FirstLaws
mod BytesLaws
mod RewoundLaws
